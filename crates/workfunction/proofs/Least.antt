-- The least plan: some plan costs it, and none less; more where legs cost more; and w of its ends where the legs are those of a metric. The
-- same of plans that end at the starts.
-- Assumes nothing.
use Prim.Native.Nat.{ℕ, zero, suc, ◌<◌, ◌≤◌}
use mathlib.Core.List.{List, Memᴰ, Forall₂}
use mathlib.Core.Path.{◌≡◌, refl, sym, ap, ◌∙◌}
use lib.ListN.{length, get_or, replicate}
use native.Mathlib.Nat.{le_antisymm, le_refl, le_trans, le_of_eq}
use native.Mathlib.Omega.{arith}
use Rattle.base.specs.Lists.{up_to}
use Rattle.base.specs.Metric.{Metric}
use Rattle.base.proofs.Lists.{get_or-up_to}
use Rattle.workfunction.specs.Least.{IsLeast}
use Rattle.workfunction.specs.Lists.{sections}
use Rattle.workfunction.specs.Movement.{Instance, work, floor}
use Rattle.workfunction.specs.Plan.{follows, plan_cost, plans, least_plan, stops, leg_cost, LeastOfPlans, plan_floor}
use Rattle.workfunction.specs.Position.{Position}
use Rattle.workfunction.proofs.Lists.{minimum_least, filter_in, in_filter, sections_in, up_to_in}
use Rattle.workfunction.proofs.Movement.{work_least}
use Rattle.workfunction.proofs.Plan.{Plan, plan_facts, plan_rule_lem, Vouched, plan_least}
use Rattle.workfunction.proofs.Planned.{plan_below}
use Rattle.workfunction.proofs.Stops.{stop_placed, follower_placed}
use Rattle.workfunction.proofs.Sums.{sum_same, sum-le}
use Rattle.workfunction.proofs.Witness.{leg-call, leg_stand, work_plan}

-- ---- plans to one end and w

-- some plan to C costs no more than w(C)
pub plan_for : {n : ℕ} {d : ℕ → ℕ → ℕ} {starts calls C : List ℕ} → Metric n d → Instance n starts calls → Position n (length starts) C
    → (f : ℕ → ℕ) × Plan (length starts) (stops starts calls) f
    × (plan_cost (stops starts calls) (leg_cost d starts calls C) f ≤ work d n starts calls C)
plan_for {d = d} {starts} {calls} {C} laws day at =
    let best = (work_least d day C).attained in
    rw (← best.2) (plan_below (leg_cost d starts calls C) laws day at (λ p b call low lt. le_of_eq (leg-call laws day at p b call))
    (λ p e lt end. le_of_eq (leg_stand laws day at p e end)) best.1)

-- ---- the least of all plans

-- plans that agree on all stops
plan_same : {k N : ℕ} {f g : ℕ → ℕ} → Plan k N f → ((p : ℕ) → p < N → g p ≡ f p) → Plan k N g
unfolding follows
plan_same {N = N} {f} {g} plan same = record {
  below = λ p h. rw (same p h) (plan.below p h);
  may = λ p h. rw (same p h) (plan.may p h);
  once = λ b h. sum_same N (follows g b) (follows f b) (λ p lt. rw (same p lt)) ∙ plan.once b h;
}

rows : (m N : ℕ) (f : ℕ → ℕ) → ((i : ℕ) → i < m → f i < N)
    → Forall₂ (λ b (l : List ℕ). Memᴰ b l) (up_to m f) (replicate m (up_to N (λ b. b)))
unfolding up_to
rows zero N f on = Forall₂.nil
rows (suc m) N f on = Forall₂.cons (up_to_in N (λ b. b) (f 0) (on 0 (omega arith))) (rows m N (λ i. f (suc i)) (λ i h. on (suc i) (omega arith)))

-- as its list
listed : (N : ℕ) (f : ℕ → ℕ) (p : ℕ) → p < N → get_or (up_to N f) p 0 ≡ f p
listed N f p h = get_or-up_to N f p 0 h

module _ {k N : ℕ} where
  plans_in : {f : ℕ → ℕ} → Plan k N f → Memᴰ (up_to N f) (plans k N)
  unfolding plans
  plans_in {f} plan = filter_in _ (plan_rule_lem (plan_same plan (listed N f))) (sections_in (rows N N f plan.below))

  in_plans : {l : List ℕ} → Memᴰ l (plans k N) → Plan k N (λ p. get_or l p 0)
  unfolding plans
  in_plans {l} m = plan_facts k N (λ p. get_or l p 0) (in_filter _ (sections (replicate N (up_to N (λ b. b)))) m).1

  -- where there is a plan, some plan costs the least, and none less
  pub least_plan_lem : (c : ℕ → ℕ → ℕ) {f : ℕ → ℕ} → Plan k N f → IsLeast (Plan k N) (plan_cost N c) (least_plan k N c)
  unfolding least_plan plan_cost
  least_plan_lem c plan =
      let least = minimum_least (λ l. plan_cost N c (λ p. get_or l p 0)) (plans k N) (plans_in plan) in
      let best = least.attained in
      record {
        attained = ((λ p. get_or best.0 p 0), in_plans best.1, best.2);
        below = λ g other.
            le_trans (least.below (up_to N g) (plans_in other)) (le_of_eq (sum_same N _ _ (λ p h. ap (c p) (listed N g p h))));
      }

  -- a plan with weights that vouch costs it
  pub vouched_least : {c : ℕ → ℕ → ℕ} {f y : ℕ → ℕ} → Plan k N f → Vouched k N f c y → plan_cost N c f ≡ least_plan k N c
  vouched_least {c} {f} plan vouched =
      let least = least_plan_lem c plan in
      let best = least.attained in
      le_antisymm (rw (← best.2) (plan_least plan vouched best.1)) (least.below f plan)

  -- dearer legs, dearer plans
  pub least_plan_more : {c c' : ℕ → ℕ → ℕ} {f : ℕ → ℕ} → Plan k N f → ((p b : ℕ) → p < N → b < N → c p b ≤ c' p b)
      → least_plan k N c ≤ least_plan k N c'
  unfolding plan_cost
  least_plan_more {c} {c'} plan more =
      let best = (least_plan_lem c' plan).attained in
      let each = sum-le N (λ p. c p (best.0 p)) (λ p. c' p (best.0 p)) (λ p h. more p (best.0 p) h (best.1.below p h)) in
      rw (← best.2) (le_trans ((least_plan_lem c plan).below best.0 best.1) each)

  -- legs that cost the same, the same least
  pub least_plan-same : {c c' : ℕ → ℕ → ℕ} {f : ℕ → ℕ} → Plan k N f → ((p b : ℕ) → p < N → b < N → c p b ≡ c' p b)
      → least_plan k N c ≡ least_plan k N c'
  least_plan-same plan same =
      le_antisymm (least_plan_more plan (λ p b h l. le_of_eq (same p b h l))) (least_plan_more plan (λ p b h l. le_of_eq (sym (same p b h l))))

-- over distances it is w
pub least_plan-work : {n : ℕ} {d : ℕ → ℕ → ℕ} {starts calls C : List ℕ} → Metric n d → Instance n starts calls → Position n (length starts) C
    → least_plan (length starts) (stops starts calls) (leg_cost d starts calls C) ≡ work d n starts calls C
least_plan-work {d = d} {starts} {calls} {C} laws day at =
    let some = plan_for laws day at in
    let least = least_plan_lem (leg_cost d starts calls C) some.1 in
    let best = least.attained in
    le_antisymm (le_trans (least.below some.0 some.1) some.2) (rw (← best.2) (work_plan laws day at best.1))

-- ---- plans that end at the starts

-- there is a plan, however far apart the places are: metres of 0 are a metric
pub some_plan : {n : ℕ} {starts calls : List ℕ} → Instance n starts calls → (f : ℕ → ℕ) × Plan (length starts) (stops starts calls) f
some_plan {n} day = let some = plan_for none day day.started in (some.0, some.1)
  where
    none : Metric n (λ u v. 0)
    none = record { self = λ u h. refl; both_ways = λ u v p q. refl; triangle = λ u v w p q r. le_refl 0 }

module _ {n : ℕ} {starts calls : List ℕ} (day : Instance n starts calls) where
  -- the number that computes is the least cost of a plan that ends at the starts, whatever the metres
  pub least_of_plans : (d : ℕ → ℕ → ℕ) → LeastOfPlans d starts calls (plan_floor d starts calls)
  least_of_plans d =
      let least = least_plan_lem (leg_cost d starts calls starts) (some_plan day).1 in
      let best = least.attained in
      record {
        attained = (best.0, plan_rule_lem best.1, best.2);
        below = λ f rule. least.below f (plan_facts (length starts) (stops starts calls) f rule);
      }

  -- longer ways between the places, no lower a least
  pub plan_floor_more : {d d' : ℕ → ℕ → ℕ} → ((u v : ℕ) → u < n → v < n → d u v ≤ d' u v) → plan_floor d starts calls ≤ plan_floor d' starts calls
  unfolding leg_cost
  plan_floor_more more =
      least_plan_more (some_plan day).1 (λ p b h l. more _ _ (stop_placed day p h) (follower_placed day day.started b l))

  -- ways that are as long, the same least
  pub plan_floor-same : {d d' : ℕ → ℕ → ℕ} → ((u v : ℕ) → u < n → v < n → d u v ≡ d' u v) → plan_floor d starts calls ≡ plan_floor d' starts calls
  plan_floor-same same = le_antisymm (plan_floor_more (λ u v p q. le_of_eq (same u v p q))) (plan_floor_more (λ u v p q. le_of_eq (sym (same u v p q))))

  -- over a metric it is the floor, w(starts)
  pub plan_floor-work : {d : ℕ → ℕ → ℕ} → Metric n d → plan_floor d starts calls ≡ floor d n starts calls
  unfolding floor
  plan_floor-work laws = least_plan-work laws day day.started
