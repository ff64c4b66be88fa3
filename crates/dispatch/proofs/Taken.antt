-- A plan at work and one more call: the table of the legs with it, what taking it in stands on, and once it is taken in for an end, which
-- then is where the call is, the plan, the weights and the table. By no law of a metric. Assumes nothing.
use Prim.Native.Nat.{ℕ, ◌+◌, ◌<◌, ◌≤◌}
use mathlib.Core.Bool.{true}
use mathlib.Core.List.{List, [], ◌∷◌, ◌++◌}
use mathlib.Core.Path.{◌≡◌, ◌∙◌}
use lib.IntN.{ℤ, pos}
use lib.ListN.{length, set}
use lib.Seq.{get_or-set_same, get_or-set_other}
use native.Mathlib.Nat.{le_of_lt}
use native.Mathlib.Omega.{arith}
use Rattle.road.specs.Table.{most_metres}
use Rattle.workfunction.specs.Choice.{moved}
use Rattle.workfunction.specs.Movement.{Instance}
use Rattle.workfunction.specs.Plan.{plan_rule, stops, leg_cost}
use Rattle.workfunction.specs.Position.{Position}
use Rattle.workfunction.proofs.Movement.{instance_then}
use Rattle.workfunction.proofs.NetCost.{leg_before}
use Rattle.workfunction.proofs.Plan.{Plan, plan_facts}
use Rattle.workfunction.proofs.Position.{position_set}
use Rattle.workfunction.proofs.Stops.{stop_placed, follower_placed, stops_more}
use Rattle.book.specs.Book.{most_stops, follower, weight, range_rule}
use Rattle.book.proofs.Vouching.{vouch_over_legs}
use Rattle.dispatch.specs.Insertion.{Inserted, Legible, Kept}
use Rattle.dispatch.specs.Legs.{plan_room, leg_at, LegTable, FollowerPut, StopAdded}
use Rattle.dispatch.specs.Search.{Witnessed}
use Rattle.dispatch.proofs.Insertion.{inserted_plan, inserted_range, range_moved}
use Rattle.dispatch.proofs.LegTable.{table_leg, table_grown, table_moved}
use Rattle.dispatch.proofs.insert.Laws.{taken_self, taken_plan}

module _ {n : ℕ} {d read : ℕ → ℕ → ℕ} (legible : Legible n d read) where
  module _ {starts calls stands : List ℕ} (day : Instance n starts calls) (standing : Position n (length starts) stands) (p b : ℕ)
      (h : p < stops starts calls) (l : b < stops starts calls) where
    -- a leg is within the limit
    pub leg-short : leg_cost d starts calls stands p b ≤ most_metres
    unfolding leg_cost
    leg-short = legible.short _ _ (stop_placed day p h) (follower_placed day standing b l)

  module _ {starts calls stands plan : List ℕ} {weights : List ℤ} {costs : List ℕ}
      (kept : Kept n d starts calls stands plan weights costs) (few : stops starts calls < plan_room) (long : stops starts calls < length plan) {r : ℕ}
      (asked : r < n) {longer : List ℕ} (added : StopAdded read (stops starts calls) r costs longer) where
    -- the table with the call
    pub longer_table : LegTable n d starts (calls ++ (r ∷ [])) stands longer
    longer_table = table_grown kept.table legible.few kept.standing.cranes (λ x l. legible.reads r x asked l) added

    pub leg_longer : (p b : ℕ) → p ≤ stops starts calls → b ≤ stops starts calls
        → leg_at longer p b ≡ leg_cost d starts (calls ++ (r ∷ [])) stands p b
    leg_longer p b h l =
        let one = stops_more starts calls r in
        let lt : p < stops starts (calls ++ (r ∷ [])) = omega arith in
        let less : b < stops starts (calls ++ (r ∷ [])) = omega arith in
        table_leg longer_table p b lt less (follower_placed (instance_then kept.asked.day asked) kept.standing b less)

    pub longer_short : (p b : ℕ) → p ≤ stops starts calls → b ≤ stops starts calls → leg_at longer p b ≤ most_metres
    longer_short p b h l =
        let one = stops_more starts calls r in
        rw (leg_longer p b h l) (leg-short (instance_then kept.asked.day asked) kept.standing p b (omega arith) (omega arith))

    -- the legs between the stops before the call cost what they did
    pub leg_early : (p b : ℕ) → p < stops starts calls → b < stops starts calls → leg_at longer p b ≡ leg_cost d starts calls stands p b
    leg_early p b h l = leg_longer p b (le_of_lt h) (le_of_lt l) ∙ leg_before d starts calls kept.standing r p b h l

    pub kept_witnessed : Witnessed (length starts) (stops starts calls) plan weights longer
    kept_witnessed =
        let weighed = kept.weights_long in
        record {
          few = few;
          weighed = omega arith;
          certified = record {
            planned = kept.certified.planned;
            ranged = kept.certified.ranged;
            vouched =
                vouch_over_legs (length starts) (stops starts calls) plan weights (leg_at longer) (leg_cost d starts calls stands)
                kept.certified.planned leg_early ∙ kept.certified.vouched;
          };
          short = longer_short;
        }

    pub kept_self : follower (set plan (stops starts calls) (stops starts calls)) (stops starts calls) ≡ stops starts calls
    kept_self = taken_self (stops starts calls) plan long

    pub kept_plan : Plan (length starts) (stops starts calls) (follower (set plan (stops starts calls) (stops starts calls)))
    kept_plan = taken_plan (length starts) (stops starts calls) plan kept.certified.planned

    module _ {s : ℕ} {g : ℕ → ℕ} {old y : ℕ → ℤ}
        (taken : Inserted (length starts) (stops starts calls) (follower (set plan (stops starts calls) (stops starts calls))) (leg_at longer) s g old y) where
      -- the call taken in: the plan
      pub served_plan : plan_rule (length starts) (stops starts calls + 1) g ≡ true
      served_plan = inserted_plan kept_plan kept_self taken

      pub served_below : (p : ℕ) → p < stops starts calls + 1 → g p < stops starts calls + 1
      served_below = (plan_facts (length starts) (stops starts calls + 1) g served_plan).below

    module _ {s : ℕ} {g : ℕ → ℕ} {old : ℕ → ℤ} (weights' : List ℤ) {left : List ℕ}
        (taken : Inserted (length starts) (stops starts calls) (follower (set plan (stops starts calls) (stops starts calls))) (leg_at longer) s
        g old (weight weights'))
        (put : FollowerPut s r longer left) where
      pub end_crane : s < length stands
      end_crane = rw kept.standing.cranes taken.end

      pub end_standing : Position n (length starts) (moved stands r s)
      end_standing = position_set stands s r asked kept.standing

      -- the table with the end at the call
      pub left_table : LegTable n d starts (calls ++ (r ∷ [])) (moved stands r s) left
      left_table =
          let one = stops_more starts calls r in
          table_moved longer_table legible.few (omega arith) end_crane put

      module _ (weighed : most_stops ≤ length weights') where
        -- the weight of the end is 0, the others are the new ones
        pub end_weight : weight (set weights' s (pos 0)) s ≡ pos 0
        end_weight =
            let end = taken.end in
            let most = kept.asked.cranes in
            get_or-set_same weights' s (pos 0) (pos 0) (omega arith)

        pub other_weight : (b : ℕ) → (b ≡ s → ⊥) → weight (set weights' s (pos 0)) b ≡ weight weights' b
        other_weight b away = get_or-set_other weights' s b (pos 0) (pos 0) away

        pub served_range : range_rule (stops starts calls + 1) (weight (set weights' s (pos 0))) ≡ true
        served_range =
            range_moved (stops starts calls + 1) s (weight weights') (weight (set weights' s (pos 0)))
            (inserted_range kept_plan kept_self taken few longer_short) end_weight other_weight
