-- One call served, by any crane: once it is taken in for a crane, which then stands at it, the plan, the weights and the table are
-- those of the day with the call, and the figures are its. Assumes nothing.
use Prim.Native.Nat.{ℕ, ◌+◌, ◌*◌, ◌<◌, ◌≤◌}
use mathlib.Core.Bool.{true}
use mathlib.Core.List.{List, [], ◌∷◌, ◌++◌}
use mathlib.Core.Path.{◌≡◌, refl, ap, ◌∙◌}
use lib.IntN.{ℤ, pos}
use lib.ListN.{length, get_or, set, length-set, length-append}
use lib.Seq.{get_or-set_other}
use native.Mathlib.Nat.{le_of_lt}
use native.Mathlib.Omega.{arith}
use Rattle.std.specs.Prelude.{Option}
use Rattle.road.specs.Table.{most_metres}
use Rattle.dayfile.specs.Day.{most_calls}
use Rattle.workfunction.specs.Choice.{moved, drive}
use Rattle.workfunction.specs.Movement.{work}
use Rattle.workfunction.specs.Plan.{vouch_rule, plan_cost, stops, leg_cost}
use Rattle.workfunction.specs.Serving.{served_by}
use Rattle.workfunction.proofs.Movement.{instance_then}
use Rattle.workfunction.proofs.Plan.{plan_facts}
use Rattle.workfunction.proofs.Stops.{follower_placed, stops_more}
use Rattle.workfunction.proofs.Sums.{sum_same, sum_most, entry_in}
use Rattle.workfunction.proofs.Witness.{witness_work}
use Rattle.book.specs.Book.{most_stops, follower, weight}
use Rattle.dispatch.specs.Insertion.{least_end, picked, Found, Inserted, Unmoved, Roads, Kept, Answered, Netted}
use Rattle.dispatch.specs.Legs.{leg_at, FollowerPut, StopAdded}
use Rattle.dispatch.proofs.Insertion.{netted_choice, found_netted, inserted_served}
use Rattle.dispatch.proofs.LegTable.{table_leg}
use Rattle.dispatch.proofs.Taken.{leg_longer, longer_short, leg_early, kept_self, kept_plan, served_plan, served_below}
use Rattle.dispatch.proofs.Taken.{end_crane, end_standing, left_table, end_weight, other_weight, served_range}

-- there is room for one more call
pub kept_few : {n : ℕ} {d : ℕ → ℕ → ℕ} {starts calls stands plan : List ℕ} {weights : List ℤ} {costs : List ℕ}
    → Kept n d starts calls stands plan weights costs → length calls < most_calls → stops starts calls < most_stops
kept_few kept space = let cranes = kept.asked.cranes in omega arith

module _ {n : ℕ} {d read : ℕ → ℕ → ℕ} (roads : Roads n d read) {starts calls stands plan : List ℕ} {weights : List ℤ} {costs : List ℕ}
    (kept : Kept n d starts calls stands plan weights costs) where
  -- the kept plan costs w of the stands
  kept_work : plan_cost (stops starts calls) (leg_cost d starts calls stands) (follower plan) ≡ work d n starts calls stands
  kept_work =
      witness_work roads.laws kept.asked.day (follower plan) (weight weights) kept.certified.planned kept.standing
      kept.certified.vouched

  kept_below : (p : ℕ) → p < stops starts calls → follower plan p < stops starts calls
  kept_below = (plan_facts (length starts) (stops starts calls) (follower plan) kept.certified.planned).below

  module _ (few : stops starts calls < most_stops) (long : stops starts calls < length plan) {r : ℕ} (asked : r < n) {longer : List ℕ}
      (added : StopAdded read (stops starts calls) r costs longer) where
    -- and so it does over the legs with the call, and with the call followed by itself
    pub kept_present : plan_cost (stops starts calls) (leg_at longer) (follower plan) ≡ work d n starts calls stands
    unfolding plan_cost
    kept_present =
        sum_same (stops starts calls) _ _ (λ p h. leg_early roads.legible kept (omega arith) long asked added p (follower plan p) h (kept_below p h))
        ∙ kept_work

    taken_present : plan_cost (stops starts calls) (leg_cost d starts calls stands) (follower (set plan (stops starts calls) (stops starts calls)))
        ≡ work d n starts calls stands
    unfolding plan_cost
    taken_present =
        sum_same (stops starts calls) _ _
        (λ p h. ap (leg_cost d starts calls stands p) (get_or-set_other plan (stops starts calls) p (stops starts calls) 0 (λ e. omega arith)))
        ∙ kept_work

    pub kept_most : plan_cost (stops starts calls) (leg_at longer) (follower plan) ≤ stops starts calls * most_metres
    unfolding plan_cost
    kept_most =
        sum_most (stops starts calls) most_metres _
        (λ p h. longer_short roads.legible kept (omega arith) long asked added p (follower plan p) (le_of_lt h) (le_of_lt (kept_below p h)))

    -- the search for the call tells w and the drive of every crane
    pub kept_netted : {total parent rank before net_end : ℕ → ℕ}
        → Found (length starts) (stops starts calls) (follower (set plan (stops starts calls) (stops starts calls))) (leg_at longer) total parent
        rank before net_end
        → Netted n d starts calls stands r net_end (leg_at longer)
    kept_netted found =
        found_netted roads.laws kept.asked.day kept.standing asked (kept_plan roads.legible kept (omega arith) long asked added)
        (kept_self roads.legible kept (omega arith) long asked added) (leg_longer roads.legible kept (omega arith) long asked added) found
        taken_present

    module _ (plan' : List ℕ) (weights' : List ℤ) (left : List ℕ) {s : ℕ} {old : ℕ → ℤ}
        (taken : Inserted (length starts) (stops starts calls) (follower (set plan (stops starts calls) (stops starts calls))) (leg_at longer) s
        (follower plan') old (weight weights'))
        (put : FollowerPut s r longer left) (plan_long : most_stops ≤ length plan') (weights_long : most_stops ≤ length weights') where
      served_vouched : vouch_rule (length starts) (stops starts calls + 1) (follower plan')
          (leg_cost d starts (calls ++ (r ∷ [])) (moved stands r s)) (weight (set weights' s (pos 0))) ≡ true
      served_vouched =
          inserted_served roads.laws kept.asked.day kept.standing asked (kept_plan roads.legible kept (omega arith) long asked added)
          (kept_self roads.legible kept (omega arith) long asked added) (leg_longer roads.legible kept (omega arith) long asked added) taken
          (weight (set weights' s (pos 0))) (end_weight roads.legible kept (omega arith) long asked added weights' taken put weights_long)
          (other_weight roads.legible kept (omega arith) long asked added weights' taken put weights_long)

      served_kept : length calls < most_calls → Kept n d starts (calls ++ (r ∷ [])) (moved stands r s) plan' (set weights' s (pos 0)) left
      served_kept space =
          let one = stops_more starts calls r in
          let more = length-append calls (r ∷ []) in
          record {
            asked = record { day = instance_then kept.asked.day asked; cranes = kept.asked.cranes; few = omega arith };
            standing = end_standing roads.legible kept (omega arith) long asked added weights' taken put;
            certified = record {
              planned = rw one at (served_plan roads.legible kept (omega arith) long asked added taken);
              ranged = rw one at (served_range roads.legible kept (omega arith) long asked added weights' taken put weights_long);
              vouched = rw one at served_vouched;
            };
            table = left_table roads.legible kept (omega arith) long asked added weights' taken put;
            plan_long = plan_long;
            weights_long = rw length-set weights_long;
          }

      leg_left : (p b : ℕ) → p < stops starts calls + 1 → b < stops starts calls + 1
          → leg_at left p b ≡ leg_cost d starts (calls ++ (r ∷ [])) (moved stands r s) p b
      leg_left p b h l =
          let one = stops_more starts calls r in
          let less : b < stops starts (calls ++ (r ∷ [])) = omega arith in
          table_leg (left_table roads.legible kept (omega arith) long asked added weights' taken put) p b (omega arith) less
          (follower_placed (instance_then kept.asked.day asked) (end_standing roads.legible kept (omega arith) long asked added weights' taken put) b less)

      -- the plan costs w of the stands
      served-work : length calls < most_calls → plan_cost (stops starts calls + 1) (leg_at left) (follower plan')
          ≡ work d n starts (calls ++ (r ∷ [])) (moved stands r s)
      unfolding plan_cost
      served-work space =
          let k = served_kept space in
          sum_same (stops starts calls + 1) _ _
          (λ p h. leg_left p (follower plan' p) h (served_below roads.legible kept (omega arith) long asked added taken p h))
          ∙ rw (stops_more starts calls r)
          (witness_work roads.laws k.asked.day (follower plan') (weight (set weights' s (pos 0)))
          k.certified.planned k.standing k.certified.vouched)

      pub call_answered : length calls < most_calls → {pick : Option ℕ}
          → s ≡ picked pick (least_end (length starts) (stops starts calls) taken.net_end (leg_at longer))
          → {metres least : ℕ} → metres ≡ read (get_or stands s 0) r
          → least ≡ plan_cost (stops starts calls + 1) (leg_at left) (follower plan')
          → Answered n d starts calls stands r pick (record { crane = s; metres = metres; least = least }) (set stands s r) plan'
          (set weights' s (pos 0)) left
      unfolding served_by drive
      call_answered space {pick} chosen e w =
          let crane = end_crane roads.legible kept (omega arith) long asked added weights' taken put in
          let least = netted_choice kept.asked.day kept.standing (kept_netted taken.found) in
          let way = roads.legible.reads (get_or stands s 0) r (kept.standing.placed (entry_in stands s crane)) asked in
          record {
            crane = crane;
            chosen = chosen ∙ ap (picked pick) least;
            figures = rw (e, way, w, served-work space);
            there = refl;
            kept = served_kept space;
          }

-- a weight not past N that becomes 0
pub unmoved_set : {N : ℕ} {plan : List ℕ} {weights : List ℤ} {plan' : List ℕ} {weights' : List ℤ} (s : ℕ) → s ≤ N
    → Unmoved N plan weights plan' weights' → Unmoved N plan weights plan' (set weights' s (pos 0))
unmoved_set {weights' = weights'} s h u = record {
  followers = u.followers;
  weighed = λ b l. get_or-set_other weights' s b (pos 0) (pos 0) (λ e. omega arith) ∙ u.weighed b l;
}
