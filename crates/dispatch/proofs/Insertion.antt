-- What the search for net costs, the flip of a plan and the new weights are worth together, where a call at the place r is
-- taken in: the net costs tell the work function of every crane that may serve it, and once a crane has, the flipped plan and
-- the new weights are those of a sound book again, however far the old weights were from 0. Assumes nothing.
use Prim.Native.Nat.{ℕ, ◌+◌, ◌*◌, ◌<◌, ◌≤◌}
use mathlib.Core.Bool.{true}
use mathlib.Core.List.{List, [], ◌∷◌, ◌++◌}
use mathlib.Core.Logic.{◌⊎◌}
use mathlib.Core.Path.{◌≡◌, refl, sym, ap, ◌∙◌}
use lib.IntN.{ℤ, pos, ◌-ℤ◌}
use lib.ListN.{length, get_or}
use native.Mathlib.Decide.{ℕ_discrete}
use native.Mathlib.Nat.{le_refl}
use native.Mathlib.Omega.{arith}
use Rattle.base.specs.Metric.{Metric}
use Rattle.base.proofs.Signed.{plus, minus, difference_within, neg_difference}
use Rattle.base.proofs.Tests.{below_at, below_all}
use Rattle.road.specs.Table.{most_metres}
use Rattle.workfunction.specs.Choice.{moved, drive, move_sum, choice}
use Rattle.workfunction.specs.Movement.{Instance, work}
use Rattle.workfunction.specs.NetCost.{StopNets}
use Rattle.workfunction.specs.Plan.{plan_rule, vouch_rule, plan_cost, stops, leg_cost}
use Rattle.workfunction.specs.Position.{Position}
use Rattle.workfunction.proofs.Keys.{none, next, preferred_least, preferred-same}
use Rattle.workfunction.proofs.NetCost.{Arrived, follower_on, whole, by_stops, nets_over, net_most, net_least, net_work, flipped_plan, stayed_rule, flipped_rule, moved_plan, moved_rule, arrived_at, leg_before}
use Rattle.workfunction.proofs.Plan.{Plan, plan_rule_lem, stop_only}
use Rattle.workfunction.proofs.Position.{position_set}
use Rattle.workfunction.proofs.Stops.{place_last, place_stand}
use Rattle.workfunction.proofs.Sums.{entry_in}
use Rattle.book.specs.Book.{most_stops, weight_rule, range_rule}
use Rattle.dispatch.specs.Insertion.{least_end, Found, Inserted, Netted}
use Rattle.dispatch.specs.Legs.{plan_room}
use Rattle.dispatch.specs.Search.{net_base, net_of, Matched}
use Rattle.book.proofs.Vouching.{in_range, same_vouching}

pub matched_plan : {k N : ℕ} {f : ℕ → ℕ} → Plan k N f → f N ≡ N → Matched N f
matched_plan plan self =
    record {
      below = λ p h. let on = follower_on plan self p h in omega arith;
      only = λ p q h hq e. stop_only (whole plan self) p q (omega arith) (omega arith) e;
    }

-- ---- any ends

module _ {k N : ℕ} {f : ℕ → ℕ} {c : ℕ → ℕ → ℕ} {s : ℕ} {g : ℕ → ℕ} {old y : ℕ → ℤ} (plan : Plan k N f) (self : f N ≡ N)
    (taken : Inserted k N f c s g old y) where
  -- the stop that the end follows is below the new call, and is followed by an end
  end_stop : taken.before s < N
  end_stop = taken.found.freed.stop s taken.end

  end_follows : f (taken.before s) < k
  end_follows = rw (taken.found.freed.follows s taken.end) taken.end

  pub inserted_plan : plan_rule k (N + 1) g ≡ true
  inserted_plan =
      plan_rule_lem (flipped_plan plan self taken.found.searched.nets end_stop end_follows taken.flipped)

  -- the base less a net cost
  weighed : (q : ℕ) → q ≤ N → y (f q) ≡ pos net_base -ℤ pos (net_of f c taken.total q)
  weighed q h = taken.reweighed.renewed q h ∙ neg_difference (pos (net_of f c taken.total q)) (pos net_base)

  module _ (few : N < plan_room) (short : (p b : ℕ) → p ≤ N → b ≤ N → c p b ≤ most_metres) where
    -- whatever the old weights were
    pub inserted_within : (b : ℕ) → b ≤ N → (plus (y b) ≤ most_stops * most_metres) × (minus (y b) ≤ most_metres)
    inserted_within b h = by_stops plan self (λ b. (plus (y b) ≤ most_stops * most_metres) × (minus (y b) ≤ most_metres)) each b (omega arith)
      where
        each : (q : ℕ) → q ≤ N → (plus (y (f q)) ≤ most_stops * most_metres) × (minus (y (f q)) ≤ most_metres)
        each q on =
            let least = net_least plan self taken.found.searched.nets most_metres short q on in
            let most = net_most plan self taken.found.searched.nets most_metres short q on in
            rw (weighed q on) (difference_within net_base (net_of f c taken.total q) (most_stops * most_metres) most_metres (omega arith) (omega arith))

    pub inserted_range : range_rule (N + 1) y ≡ true
    inserted_range = below_all _ (N + 1) ranged
      where
        ranged : (b : ℕ) → b < N + 1 → weight_rule (y b) ≡ true
        ranged b h =
            let near = inserted_within b (omega arith) in
            let high = near.0 in
            let low = near.1 in
            in_range (y b) (omega arith) (omega arith)

  -- where the end is the least one it may stay where it is: they vouch for the plan in which it follows the call, whatever the legs
  pub inserted_vouched : s ≡ least_end k N taken.net_end c → vouch_rule k (N + 1) g c y ≡ true
  inserted_vouched chosen = stayed_rule plan self taken.found.searched.nets end_stop end_follows taken.flipped least y weighed
    where
      least : (q : ℕ) → q ≤ N → f q < k
          → net_of f c taken.total (taken.before s) + c N (f (taken.before s)) ≤ net_of f c taken.total q + c N (f q)
      least q hq end =
          let free = taken.found.freed in
          let stop = free.stop (f q) end in
          let same = stop_only (whole plan self) (taken.before (f q)) q (omega arith) (omega arith) (free.follows (f q) end) in
          let own = free.costs s taken.end in
          let other = rw same at (free.costs (f q) end) in
          let low = rw (← chosen) at (preferred_least (λ e. taken.net_end e + c N e) (c N ∷ []) k (omega (arith, taken.end)) (f q) end) in
          let way = ap (c N) (free.follows s taken.end) in
          omega arith

-- a weight that becomes 0
pub range_moved : (n s : ℕ) (y z : ℕ → ℤ) → range_rule n y ≡ true → z s ≡ pos 0 → ((b : ℕ) → (b ≡ s → ⊥) → z b ≡ y b) → range_rule n z ≡ true
unfolding weight_rule
range_moved n s y z range zero same = below_all _ n (λ b h. each b h (ℕ_discrete b s))
  where
    each : (b : ℕ) → b < n → Dec (b ≡ s) → weight_rule (z b) ≡ true
    each b h (yes e) = rw (e, zero)
    each b h (no away) = rw (same b away) (below_at _ n range b h)

-- ---- a call served

-- where each crane's net cost tells w and its way is its drive, the least end is the crane that the choice sends
pub netted_choice : {n : ℕ} {d : ℕ → ℕ → ℕ} {starts calls stands : List ℕ} {r : ℕ} {net_end : ℕ → ℕ} {c : ℕ → ℕ → ℕ}
    → Instance n starts calls → Position n (length starts) stands → Netted n d starts calls stands r net_end c
    → least_end (length starts) (stops starts calls) net_end c ≡ choice d n starts calls stands r
unfolding choice move_sum
netted_choice {n} {d} {starts} {calls} {stands} day standing told =
    rw standing.cranes
    (preferred-same day.crane
    (next (work d n starts calls stands) net_base (λ e h. let work = told.works e h in let way = told.ways e h in omega arith)
    (next 0 0 (λ e h. let way = told.ways e h in omega arith) none)))

module _ {n : ℕ} {d : ℕ → ℕ → ℕ} (laws : Metric n d) {starts calls stands : List ℕ} (day : Instance n starts calls)
    (standing : Position n (length starts) stands) {r : ℕ} (asked : r < n) {f : ℕ → ℕ} (plan : Plan (length starts) (stops starts calls) f)
    (self : f (stops starts calls) ≡ stops starts calls) {c : ℕ → ℕ → ℕ}
    (table : (p b : ℕ) → p ≤ stops starts calls → b ≤ stops starts calls → c p b ≡ leg_cost d starts (calls ++ (r ∷ [])) stands p b) where
  abbrev N : ℕ
  N = stops starts calls

  -- the way from the new call to a stand is the crane's drive
  way_drive : (e : ℕ) → e < length starts → c N e ≡ drive d stands r e
  unfolding leg_cost drive
  way_drive e h =
      let stand : e < length stands = rw standing.cranes h in
      let placed = standing.placed (entry_in stands e stand) in
      table N e (le_refl N) (omega arith)
      ∙ rw (place_last starts calls r, place_stand stands (calls ++ (r ∷ [])) e stand) (laws.both_ways r (get_or stands e 0) asked placed)

  module _ {total parent rank before net_end : ℕ → ℕ} (found : Found (length starts) N f c total parent rank before net_end) where
    -- the net costs are those of the legs
    nets : StopNets (length starts) N net_base f (leg_cost d starts (calls ++ (r ∷ [])) stands) (net_of f c total) parent rank
    nets = nets_over plan self found.searched.nets table

    -- the net cost of the stop before a crane's stand tells w for that crane
    crane-work : (e : ℕ) → e < length starts → work d n starts (calls ++ (r ∷ [])) (moved stands r e) + net_base
        ≡ plan_cost N (leg_cost d starts calls stands) f + net_end e
    crane-work e h =
        let free = found.freed in
        rw (free.costs e h) (net_work laws day standing asked plan self nets (before e) e (free.stop e h) h (free.follows e h))

    -- where the kept plan costs w of the stands
    pub found_netted : plan_cost N (leg_cost d starts calls stands) f ≡ work d n starts calls stands → Netted n d starts calls stands r net_end c
    found_netted present = record { works = rw present at crane-work; ways = way_drive }

  -- with crane s at the call its weight is 0, and the others are the negated net costs
  pub inserted_served : {s : ℕ} {g : ℕ → ℕ} {old y : ℕ → ℤ} (taken : Inserted (length starts) N f c s g old y) (z : ℕ → ℤ) → z s ≡ pos 0
      → ((b : ℕ) → (b ≡ s → ⊥) → z b ≡ y b)
      → vouch_rule (length starts) (N + 1) g (leg_cost d starts (calls ++ (r ∷ [])) (moved stands r s)) z ≡ true
  inserted_served {s} taken z zero same =
      let free = taken.found.freed in
      flipped_rule laws day standing asked plan self (nets taken.found) (taken.before s) s (free.stop s taken.end) taken.end
      (free.follows s taken.end) taken.flipped z zero (λ q h away. same (f q) away ∙ weighed plan self taken q h)

-- where the call goes again, and the stop that it followed is followed by the end s: that end is moved to r, whether the legs are those of
-- a metric or not
module _ {n : ℕ} (d : ℕ → ℕ → ℕ) (starts calls : List ℕ) {stands : List ℕ} (standing : Position n (length starts) stands) {r : ℕ} (asked : r < n)
    {f : ℕ → ℕ} (plan : Plan (length starts) (stops starts calls) f) (self : f (stops starts calls) ≡ stops starts calls) {c : ℕ → ℕ → ℕ}
    (table : (p b : ℕ) → p ≤ stops starts calls → b ≤ stops starts calls → c p b ≡ leg_cost d starts (calls ++ (r ∷ [])) stands p b)
    {s : ℕ} {g : ℕ → ℕ} {old y : ℕ → ℤ} (taken : Inserted (length starts) (stops starts calls) f c s g old y) {h : ℕ → ℕ}
    (renamed : (p : ℕ) → p < stops starts calls → ((g p ≡ stops starts calls → ⊥) × (h p ≡ g p)) ⊎ ((g p ≡ stops starts calls) × (h p ≡ s))) where
  over_legs : StopNets (length starts) (stops starts calls) net_base f (leg_cost d starts (calls ++ (r ∷ [])) stands) (net_of f c taken.total)
      taken.parent taken.rank
  over_legs = nets_over plan self taken.found.searched.nets table

  serves : f (taken.before s) ≡ s
  serves = taken.found.freed.follows s taken.end

  arrived : Arrived (stops starts calls) s (leg_cost d starts (calls ++ (r ∷ [])) stands) (leg_cost d starts (calls ++ (r ∷ [])) (moved stands r s))
  arrived = arrived_at d starts calls standing r s taken.end

  pub ended_plan : Plan (length starts) (stops starts calls) h
  ended_plan = moved_plan plan self over_legs (end_stop plan self taken) (end_follows plan self taken) taken.flipped serves arrived renamed

  pub ended_vouched : (z : ℕ → ℤ) → z s ≡ pos 0 → ((b : ℕ) → (b ≡ s → ⊥) → z b ≡ y b)
      → vouch_rule (length starts) (stops starts calls) h (leg_cost d starts calls (moved stands r s)) z ≡ true
  ended_vouched z zero same =
      let there : Position n (length starts) (moved stands r s) = position_set stands s r asked standing in
      sym (same_vouching (length starts) (stops starts calls) h h _ _ z z ended_plan.below (λ p l. refl) (λ b l. refl)
      (λ p b lt l. leg_before d starts calls there r p b lt l))
      ∙ moved_rule plan self over_legs (end_stop plan self taken) (end_follows plan self taken) taken.flipped serves arrived renamed z zero
      (λ q l away. same (f q) away ∙ weighed plan self taken q l)
