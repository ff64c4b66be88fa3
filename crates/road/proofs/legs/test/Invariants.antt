-- `road::legs::test` meets its contract: the loop passes the legs whose metres are within the limit.
-- Assumes nothing.
use Prim.Native.Nat.{ℕ}
use mathlib.Core.Bool.{Bool}
use lib.ListN.{length, get_or}
use Rattle.base.proofs.Tests.{Passed}
use Rattle.road.specs.Table.{Table, metres_rule}
use Rattle.road.proofs.legs.test.Given as goal

-- what the loop tests of each leg
abbrev pub rule : Table → ℕ → Bool
rule table = λ i. metres_rule (get_or table i 0)

abbrev pub invariant-loop-metres : goal.invariant-loop-metres
invariant-loop-metres l = Passed (length l.table) (rule l.table) l.metres-index
