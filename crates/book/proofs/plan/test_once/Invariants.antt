-- `book::plan::test_once` meets its contract: the loop passes the calls and stands that follow exactly one stop.
-- Assumes nothing.
use Prim.Native.Nat.{ℕ}
use mathlib.Core.Bool.{Bool, true}
use mathlib.Core.List.{List}
use lib.Dec.{eqb}
use lib.ListN.{length}
use mathlib.Core.Path.{◌≡◌}
use Rattle.base.specs.Tests.{all_below}
use Rattle.workfunction.specs.Lists.{sum_below}
use Rattle.workfunction.specs.Plan.{follows}
use Rattle.book.specs.Book.{follower}
use Rattle.book.proofs.plan.test_once.Given as goal

-- what the loop tests of each call and each stand
abbrev pub rule : List ℕ → ℕ → Bool
rule plan b = eqb (sum_below (length plan) (follows (follower plan) b)) 1

abbrev pub invariant-loop-b : goal.invariant-loop-b
invariant-loop-b l = all_below l.b (rule l.plan) ≡ true
