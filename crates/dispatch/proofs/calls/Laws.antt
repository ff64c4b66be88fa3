-- A plan whose ends stay, with one more call taken in for the least of them: it is such a plan again; and call after call. By no law of a
-- metric. Assumes nothing.
use Prim.Native.Nat.{ℕ, ◌+◌, ◌<◌, ◌≤◌}
use mathlib.Core.List.{List, [], ◌∷◌, ◌++◌}
use mathlib.Core.Path.{◌≡◌, sym, ◌∙◌}
use lib.IntN.{ℤ}
use lib.ListN.{length, get_or, set, take, length-append}
use lib.Seq.{length-take-le, take_all, take-suc}
use native.Mathlib.Numerals.{add-one}
use native.Mathlib.Omega.{arith}
use Rattle.dayfile.specs.Day.{most_calls}
use Rattle.workfunction.specs.Plan.{stops, leg_cost}
use Rattle.workfunction.proofs.Movement.{instance_then}
use Rattle.workfunction.proofs.Stops.{stops_more}
use Rattle.book.specs.Book.{follower, weight}
use Rattle.book.proofs.Vouching.{vouch_over_legs}
use Rattle.dispatch.specs.Insertion.{least_end, Inserted, Movable, CallTaken}
use Rattle.dispatch.specs.Legs.{plan_room, leg_at, StopAdded}
use Rattle.dispatch.proofs.Insertion.{inserted_range, inserted_vouched}
use Rattle.dispatch.proofs.Taken.{longer_table, leg_longer, longer_short, kept_self, kept_plan, served_plan}
use Rattle.dispatch.proofs.ends.Laws.{movable_few, movable_long}

module _ {n : ℕ} {read : ℕ → ℕ → ℕ} {starts calls stands plan : List ℕ} {weights : List ℤ} {costs : List ℕ}
    (movable : Movable n read starts calls stands plan weights costs) {r : ℕ} (asked : r < n) {longer : List ℕ}
    (added : StopAdded read (stops starts calls) r costs longer) (plan' : List ℕ) (weights' : List ℤ) {s : ℕ} {old : ℕ → ℤ}
    (taken : Inserted (length starts) (stops starts calls) (follower (set plan (stops starts calls) (stops starts calls))) (leg_at longer) s
    (follower plan') old (weight weights')) where
  pub call_taken : s ≡ least_end (length starts) (stops starts calls) taken.net_end (leg_at longer) → length calls < most_calls
      → plan_room ≤ length plan' → plan_room ≤ length weights' → Movable n read starts (calls ++ (r ∷ [])) stands plan' weights' longer
  call_taken chosen space plan_long weights_long =
      let legible = movable.legible in
      let kept = movable.kept in
      let few = movable_few movable in
      let long = movable_long movable in
      let plan = kept_plan legible kept few long asked added in
      let self = kept_self legible kept few long asked added in
      let planned = served_plan legible kept few long asked added taken in
      let one = stops_more starts calls r in
      let more = length-append calls (r ∷ []) in
      record {
        legible = legible;
        kept = record {
          asked = record { day = instance_then kept.asked.day asked; cranes = kept.asked.cranes; few = omega arith };
          standing = kept.standing;
          certified = record {
            planned = rw one at planned;
            ranged = rw one at (inserted_range plan self taken few (longer_short legible kept few long asked added));
            vouched =
                rw one at (sym (vouch_over_legs (length starts) (stops starts calls + 1) plan' weights' (leg_at longer)
                (leg_cost read starts (calls ++ (r ∷ [])) stands) planned
                (λ p b h l. leg_longer legible kept few long asked added p b (omega arith) (omega arith)))
                ∙ inserted_vouched plan self taken chosen);
          };
          table = longer_table legible kept few long asked added;
          plan_long = omega arith;
          weights_long = omega arith;
        };
        plan_long = plan_long;
        weights_long = weights_long;
      }

-- ---- one call after another

module _ (calls : List ℕ) (i : ℕ) {n : ℕ} {read : ℕ → ℕ → ℕ} {starts stands plan : List ℕ} {weights : List ℤ} {costs : List ℕ}
    (movable : Movable n read starts (take i calls) stands plan weights costs) where
  -- with the next call
  pub taking_turned : {plan' : List ℕ} {weights' : List ℤ} {costs' : List ℕ} → length calls ≤ most_calls → i < length calls → get_or calls i 0 < n
      → CallTaken read starts (take i calls) (get_or calls i 0) plan weights costs plan' weights' costs'
      → Movable n read starts (take (i + 1) calls) stands plan' weights' costs'
  taking_turned few lt on done =
      let long = length-take-le i calls (omega arith) in
      rw (add-one, take-suc calls i 0 lt) (done.there n stands movable on (omega arith))

  -- with all calls
  pub taking_ended : length calls ≤ i → Movable n read starts calls stands plan weights costs
  taking_ended le = rw (take_all i calls le) at movable
