-- The ends of a plan that may be moved: a plan without calls begins so, a day under way is one, a plan with one end moved is one again, and
-- what it costs is the least of all plans to its ends, which over a metric is w of them. Only the last uses the laws of a metric.
-- Assumes nothing.
use Prim.Native.Nat.{ℕ, ◌+◌, ◌<◌, ◌≤◌}
use mathlib.Core.List.Memᴰ
use mathlib.Core.List.{List, [], ◌++◌, append-nil}
use mathlib.Core.Logic.{◌⊎◌, inl, inr}
use mathlib.Core.Path.{◌≡◌, refl, sym, subst, ◌∙◌}
use borrow.Author.Tests.{eq-eqb, ne_eqb}
use lib.IntN.{ℤ, pos}
use lib.ListN.{length, get_or, set, drop, length-set, length-append, length-drop, length-replicate, drop_of_length-le, replicate, get_or-replicate}
use lib.Seq.{take_all}
use native.Mathlib.Decide.{ℕ_discrete}
use native.Mathlib.Nat.{add-zero, le_refl, le_trans, le_of_eq}
use native.Mathlib.Omega.{arith}
use Rattle.base.specs.Lists.{up_to, padded}
use Rattle.base.proofs.Lists.{length-up_to, length-padded, get_or-front, get_or-padded, take-up_to, Filled, fill_begun, fill_turned, fill_ended}
use Rattle.base.proofs.Tests.{below_at, below_all}
use Rattle.road.specs.Table.{Table, most_places, metres_of, entry}
use Rattle.road.proofs.Table.{entry_in as read-in, metres_self}
use Rattle.workfunction.specs.Choice.{moved}
use Rattle.workfunction.specs.Movement.{Instance, work, floor}
use Rattle.workfunction.specs.Plan.{plan_cost, stops, place, leg_cost, least_plan}
use Rattle.workfunction.specs.Position.{Position}
use Rattle.workfunction.proofs.Least.{vouched_least, least_plan-same, some_plan, least_plan-work}
use Rattle.workfunction.proofs.Plan.{plan_facts, plan_rule_lem, vouch_facts}
use Rattle.workfunction.proofs.Stops.{stop_placed, follower_placed}
use Rattle.workfunction.proofs.Sums.{entry_in}
use Rattle.book.specs.Book.{most_stops, follower, weight}
use Rattle.book.proofs.FreshBook.{own_plan, none_ranged, none_vouch}
use Rattle.book.proofs.Ignored.{same_plan}
use Rattle.book.proofs.Vouching.{same_vouching, vouch_over_legs, cost_over_legs}
use Rattle.dispatch.specs.Insertion.{instead, Inserted, Legible, Roads, Asked, Kept, Movable, EndMoved, EndsGiven, EndsMoved}
use Rattle.dispatch.specs.Legs.{plan_room, leg_at, LegTable, FollowerPut, StopAdded}
use Rattle.dispatch.proofs.Insertion.{ended_plan, ended_vouched}
use Rattle.dispatch.proofs.LegTable.{table_leg, table_over, table_shrunk}
use Rattle.dispatch.proofs.Taken.{leg_longer, kept_self, kept_plan, end_standing, left_table, end_weight, other_weight, served_range}

-- ---- no calls

-- the plan and the weights from which k cranes begin: each start is followed by its own end, and every weight is 0
pub record Own (k : ℕ) (plan : List ℕ) (weights : List ℤ) : Type 0 where
  pub follows : (p : ℕ) → p < k → follower plan p ≡ p
  pub none : (b : ℕ) → b < k → weight weights b ≡ pos 0
  pub plan_long : plan_room ≤ length plan
  pub weights_long : plan_room ≤ length weights

-- as they are made
pub own_made : (k : ℕ) → k ≤ plan_room → {plan : List ℕ} {weights : List ℤ} → plan ≡ padded plan_room k (λ j. j) 0 → weights ≡ replicate plan_room (pos 0)
    → Own k plan weights
own_made k few e z = record {
  follows = λ p h. rw e (get_or-padded plan_room k (λ j. j) 0 0 p h);
  none = λ b h. rw z (get_or-replicate plan_room b (pos 0) (pos 0) (omega arith));
  plan_long = rw e (le_of_eq (sym (length-padded plan_room k (λ j. j) 0 few)));
  weights_long = rw z (le_of_eq (sym (length-replicate plan_room (pos 0))));
}

module _ {n : ℕ} {d : ℕ → ℕ → ℕ} (self : (u : ℕ) → u < n → d u u ≡ 0) {starts plan : List ℕ} {weights : List ℤ} {costs : List ℕ}
    (asked : Asked n starts []) (table : LegTable n d starts [] starts costs) (own : Own (length starts) plan weights) where
  own_way : (p : ℕ) → p < length starts → leg_cost d starts [] starts p p ≡ 0
  unfolding leg_cost
  own_way p h = self (place starts [] p) (stop_placed asked.day p (omega arith))

  pub own_kept : Kept n d starts [] starts plan weights costs
  own_kept = record {
    asked = asked;
    standing = asked.day.started;
    certified = rw (add-zero (length starts)) (record {
      planned = own_plan (length starts) (follower plan) own.follows;
      ranged = none_ranged (length starts) (weight weights) own.none;
      vouched = none_vouch (length starts) (weight weights) own.none (follower plan) (leg_cost d starts [] starts) own.follows own_way;
    });
    table = table;
    plan_long = omega (arith, own.plan_long);
    weights_long = omega (arith, own.weights_long);
  }

-- ---- another plan with the same followers, and weights that are the same

pub kept_copied : {n : ℕ} {d : ℕ → ℕ → ℕ} {starts calls stands plan : List ℕ} {weights : List ℤ} {costs : List ℕ}
    → Kept n d starts calls stands plan weights costs → (plan' : List ℕ) (weights' : List ℤ)
    → ((p : ℕ) → p < stops starts calls → follower plan p ≡ follower plan' p) → ((b : ℕ) → b < stops starts calls → weight weights b ≡ weight weights' b)
    → most_stops ≤ length plan' → most_stops ≤ length weights' → Kept n d starts calls stands plan' weights' costs
kept_copied {d = d} {starts} {calls} {stands} {plan} {weights} kept plan' weights' followers same plan_long weights_long =
    let c = kept.certified in
    record {
      asked = kept.asked;
      standing = kept.standing;
      certified = record {
        planned = sym (same_plan (length starts) (stops starts calls) (follower plan) (follower plan') followers) ∙ c.planned;
        ranged = below_all _ (stops starts calls) (λ b l. rw (← same b l) (below_at _ (stops starts calls) c.ranged b l));
        vouched =
            sym (same_vouching (length starts) (stops starts calls) (follower plan) (follower plan') _ _ (weight weights) (weight weights')
            (plan_facts (length starts) (stops starts calls) (follower plan) c.planned).below followers same (λ p b h l. refl)) ∙ c.vouched;
      };
      table = kept.table;
      plan_long = plan_long;
      weights_long = weights_long;
    }

-- the cranes at their stands, as a day without calls
pub stood_day : {n : ℕ} {starts calls stands : List ℕ} → Asked n starts calls → Position n (length starts) stands → Instance n stands []
stood_day asked standing = record {
  crane = rw standing.cranes asked.day.crane;
  started = record { cranes = refl; placed = standing.placed };
  called = λ m. absurd (Memᴰ.not-nil m);
}

-- ---- over what is read off the roads

module _ {n : ℕ} {d read : ℕ → ℕ → ℕ} (legible : Legible n d read) where
  pub read_legible : Legible n read read
  read_legible = record {
    few = legible.few;
    short = λ u v p q. rw (legible.reads u v p q) (legible.short u v p q);
    reads = λ u v p q. refl;
  }

  module _ {starts calls stands : List ℕ} (day : Instance n starts calls) (standing : Position n (length starts) stands) where
    read_leg : (p b : ℕ) → p < stops starts calls → b < stops starts calls → leg_cost read starts calls stands p b ≡ leg_cost d starts calls stands p b
    unfolding leg_cost
    read_leg p b h l = legible.reads _ _ (stop_placed day p h) (follower_placed day standing b l)

  -- a day under way may have its ends moved
  pub kept_movable : {starts calls stands plan : List ℕ} {weights : List ℤ} {costs : List ℕ} → Kept n d starts calls stands plan weights costs
      → plan_room ≤ length plan → plan_room ≤ length weights → Movable n read starts calls stands plan weights costs
  kept_movable {starts} {calls} {stands} {plan} {weights} kept plan_long weights_long = record {
    legible = read_legible;
    kept = record {
      asked = kept.asked;
      standing = kept.standing;
      certified = record {
        planned = kept.certified.planned;
        ranged = kept.certified.ranged;
        vouched =
            vouch_over_legs (length starts) (stops starts calls) plan weights (leg_cost read starts calls stands) (leg_cost d starts calls stands)
            kept.certified.planned (read_leg kept.asked.day kept.standing) ∙ kept.certified.vouched;
      };
      table = table_over kept.table (le_of_eq refl) (λ p x h l. sym (legible.reads _ x (stop_placed kept.asked.day p h) l));
      plan_long = kept.plan_long;
      weights_long = kept.weights_long;
    };
    plan_long = plan_long;
    weights_long = weights_long;
  }

-- without calls each start is followed by itself, as it is made
pub own_movable : {n : ℕ} (t : Table) (starts : List ℕ) {plan : List ℕ} {weights : List ℤ} {costs : List ℕ}
    → Legible n (entry (metres_of t)) (entry (metres_of t)) → Asked n starts [] → plan ≡ padded plan_room (length starts) (λ j. j) 0
    → weights ≡ replicate plan_room (pos 0) → LegTable most_places (entry (metres_of t)) starts [] starts costs
    → Movable n (entry (metres_of t)) starts [] starts plan weights costs
own_movable {n} t starts legible asked e z table =
    let own = own_made (length starts) (omega (arith, asked.cranes)) e z in
    kept_movable legible (own_kept self asked (table_over table legible.few (λ p x h l. refl)) own) own.plan_long own.weights_long
  where
    self : (u : ℕ) → u < n → entry (metres_of t) u u ≡ 0
    self u h = let on = le_trans h legible.few in read-in (metres_of t) u u on on ∙ metres_self t u u refl

-- the least of all plans over a metric, as it is read
pub ends_work : {n : ℕ} {d read : ℕ → ℕ → ℕ} → Roads n d read → {starts calls to : List ℕ} → Instance n starts calls → Position n (length starts) to
    → least_plan (length starts) (stops starts calls) (leg_cost read starts calls to) ≡ work d n starts calls to
ends_work roads {starts} {calls} {to} day ending =
    least_plan-same (some_plan day).1 (read_leg roads.legible day ending) ∙ least_plan-work roads.laws day ending

pub ends_floor : {n : ℕ} {d read : ℕ → ℕ → ℕ} → Roads n d read → {starts calls : List ℕ} → Instance n starts calls
    → least_plan (length starts) (stops starts calls) (leg_cost read starts calls starts) ≡ floor d n starts calls
unfolding floor
ends_floor roads day = ends_work roads day day.started

-- ---- one end moved

-- taken in for the end that was given
pub sent_taken : {k N : ℕ} {f : ℕ → ℕ} {c : ℕ → ℕ → ℕ} {s e : ℕ} {g : ℕ → ℕ} {old y : ℕ → ℤ} → s ≡ e → Inserted k N f c s g old y
    → Inserted k N f c e g old y
sent_taken {k} {N} {f} {c} {g = g} {old} {y} h taken = subst (λ (s : ℕ). Inserted k N f c s g old y) h taken

module _ {n : ℕ} {read : ℕ → ℕ → ℕ} {starts calls stands plan : List ℕ} {weights : List ℤ} {costs : List ℕ}
    (movable : Movable n read starts calls stands plan weights costs) where
  -- there is room for the call by which it is moved
  pub movable_few : stops starts calls < plan_room
  movable_few = let asked = movable.kept.asked in omega (arith, asked.cranes, asked.few)

  pub movable_long : stops starts calls < length plan
  movable_long = le_trans movable_few movable.plan_long

  -- the plan costs the least of all plans to its ends
  pub movable_least : plan_cost (stops starts calls) (leg_at costs) (follower plan)
      ≡ least_plan (length starts) (stops starts calls) (leg_cost read starts calls stands)
  movable_least =
      let kept = movable.kept in
      let facts = plan_facts (length starts) (stops starts calls) (follower plan) kept.certified.planned in
      cost_over_legs (length starts) (stops starts calls) plan weights (leg_at costs) (leg_cost read starts calls stands) kept.certified.planned
      (λ p b h l. table_leg kept.table p b h l (follower_placed kept.asked.day kept.standing b l))
      ∙ vouched_least facts (vouch_facts facts _ (weight weights) kept.certified.vouched)

  module _ {r : ℕ} (asked : r < n) {longer : List ℕ} (added : StopAdded read (stops starts calls) r costs longer) {e : ℕ} (plan' : List ℕ)
      (weights' : List ℤ) {left : List ℕ} {old : ℕ → ℤ}
      (taken : Inserted (length starts) (stops starts calls) (follower (set plan (stops starts calls) (stops starts calls))) (leg_at longer) e
      (follower plan') old (weight weights'))
      (put : FollowerPut e r longer left) {plan'' : List ℕ}
      (replaced : plan'' ≡ up_to (stops starts calls) (λ p. instead (stops starts calls) e (follower plan' p)) ++ drop (stops starts calls) plan') where
    -- the follower of a stop: the end where it was the call
    follower_is : (p : ℕ) → p < stops starts calls → follower plan'' p ≡ instead (stops starts calls) e (follower plan' p)
    follower_is p h =
        rw replaced (get_or-front (stops starts calls) (λ p. instead (stops starts calls) e (follower plan' p)) (drop (stops starts calls) plan') 0 p h)

    renamed : (p : ℕ) → p < stops starts calls
        → ((follower plan' p ≡ stops starts calls → ⊥) × (follower plan'' p ≡ follower plan' p))
        ⊎ ((follower plan' p ≡ stops starts calls) × (follower plan'' p ≡ e))
    unfolding instead
    renamed p h = pick (ℕ_discrete (follower plan' p) (stops starts calls))
      where
        pick : Dec (follower plan' p ≡ stops starts calls)
            → ((follower plan' p ≡ stops starts calls → ⊥) × (follower plan'' p ≡ follower plan' p))
            ⊎ ((follower plan' p ≡ stops starts calls) × (follower plan'' p ≡ e))
        pick (yes z) = inr (z, follower_is p h ∙ rw (eq-eqb (follower plan' p) (stops starts calls) z))
        pick (no z) = inl (z, follower_is p h ∙ rw (ne_eqb (follower plan' p) (stops starts calls) z))

    length_replaced : stops starts calls ≤ length plan' → length plan'' ≡ length plan'
    length_replaced long = rw replaced (simp (length-append, length-up_to, length-drop) (omega arith))

    pub end_moved : plan_room ≤ length plan' → plan_room ≤ length weights'
        → Movable n read starts calls (moved stands r e) plan'' (set weights' e (pos 0)) left
    end_moved plan_long weights_long =
        let legible = movable.legible in
        let kept = movable.kept in
        let few = movable_few in
        let long = movable_long in
        let most : most_stops ≤ length weights' = omega arith in
        let there = end_standing legible kept few long asked added weights' taken put in
        let ranged = served_range legible kept few long asked added weights' taken put most in
        let same = length_replaced (omega arith) in
        record {
          legible = legible;
          kept = record {
            asked = kept.asked;
            standing = there;
            certified = record {
              planned =
                  plan_rule_lem (ended_plan read starts calls kept.standing asked (kept_plan legible kept few long asked added)
                  (kept_self legible kept few long asked added) (leg_longer legible kept few long asked added) taken renamed);
              ranged = below_all _ (stops starts calls) (λ b h. below_at _ (stops starts calls + 1) ranged b (omega arith));
              vouched =
                  ended_vouched read starts calls kept.standing asked (kept_plan legible kept few long asked added)
                  (kept_self legible kept few long asked added) (leg_longer legible kept few long asked added) taken renamed
                  (weight (set weights' e (pos 0))) (end_weight legible kept few long asked added weights' taken put most)
                  (other_weight legible kept few long asked added weights' taken put most);
            };
            table = table_shrunk (left_table legible kept few long asked added weights' taken put) calls r there.cranes refl;
            plan_long = omega arith;
            weights_long = rw length-set most;
          };
          plan_long = omega arith;
          weights_long = rw length-set weights_long;
        }

-- ---- one end after another

-- the ends below i are at their places of `to`, the others where they were
pub record Moving (read : ℕ → ℕ → ℕ) (starts calls to plan : List ℕ) (weights : List ℤ) (costs : List ℕ) (i : ℕ) : Type 0 where
  pub places : ℕ
  pub stands₀ : List ℕ
  pub stands : List ℕ
  pub movable : Movable places read starts calls stands plan weights costs
  pub ending : Position places (length starts) to
  pub aligned : length stands₀ ≡ length starts
  pub filled : Filled (λ j. get_or to j 0) stands₀ (length starts) stands i

module _ {read : ℕ → ℕ → ℕ} {starts calls to : List ℕ} where
  pub moving_begun : {plan : List ℕ} {weights : List ℤ} {costs : List ℕ} → EndsGiven read starts calls to plan weights costs
      → Moving read starts calls to plan weights costs 0
  moving_begun given = record {
    places = given.places;
    stands₀ = given.stands;
    stands = given.stands;
    movable = given.movable;
    ending = given.ending;
    aligned = given.movable.kept.standing.cranes;
    filled = fill_begun _ _ _;
  }

  module _ {plan : List ℕ} {weights : List ℤ} {costs : List ℕ} {i : ℕ} (moving : Moving read starts calls to plan weights costs i) where
    -- the place of the next end
    pub moving_on : i < length starts → get_or to i 0 < moving.places
    moving_on lt = moving.ending.placed (entry_in to i (rw moving.ending.cranes lt))

    pub moving_turned : {plan' : List ℕ} {weights' : List ℤ} {costs' : List ℕ} → i < length starts
        → EndMoved read starts calls i (get_or to i 0) plan weights costs plan' weights' costs' → Moving read starts calls to plan' weights' costs' (i + 1)
    moving_turned lt done = record {
      places = moving.places;
      stands₀ = moving.stands₀;
      stands = moved moving.stands (get_or to i 0) i;
      movable = done.there moving.places moving.stands moving.movable (moving_on lt);
      ending = moving.ending;
      aligned = moving.aligned;
      filled = fill_turned _ _ _ _ _ _ (le_of_eq (sym moving.aligned)) moving.filled lt refl;
    }

    pub moving_ended : length starts ≤ i → EndsMoved read starts calls to plan weights costs
    moving_ended le =
        let long = moving.ending.cranes in
        let all : moving.stands ≡ to =
        fill_ended _ _ _ _ _ moving.filled le
        ∙ rw (drop_of_length-le moving.stands₀ (le_of_eq moving.aligned), append-nil, ← long, ← take-up_to (length to) to 0 (le_refl (length to)))
        (take_all (length to) to (le_refl (length to)))
        in
        record { places = moving.places; there = rw all at moving.movable }
