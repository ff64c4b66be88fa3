-- `dayfile::Day::test_stops` meets its contract: the loop passes the stops whose place is below the number of places.
-- Assumes nothing.
use Prim.Native.Nat.{ℕ}
use mathlib.Core.Bool.{Bool}
use mathlib.Core.List.{List}
use lib.Dec.{ltb}
use lib.ListN.{length, get_or}
use Rattle.base.proofs.Tests.{Passed}
use Rattle.dayfile.proofs.Day.test_stops.Given as goal

-- what the loop tests of each stop
abbrev pub rule : ℕ → List ℕ → ℕ → Bool
rule places stops i = ltb (get_or stops i 0) places

abbrev pub invariant-loop-place : goal.invariant-loop-place
invariant-loop-place l = Passed (length l.stops) (rule l.places l.stops) l.place-index
