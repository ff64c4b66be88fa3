-- `book::plan::test_followers` meets its contract: the loop passes the stops whose follower is in range and may follow them.
-- Assumes nothing.
use Prim.Native.Nat.{ℕ}
use mathlib.Core.Bool.{Bool, true, ◌&&◌}
use mathlib.Core.List.{List}
use lib.Dec.{ltb}
use lib.ListN.{length}
use mathlib.Core.Path.{◌≡◌}
use Rattle.base.specs.Tests.{all_below}
use Rattle.workfunction.specs.Plan.{may_follow}
use Rattle.book.specs.Book.{follower}
use Rattle.book.proofs.plan.test_followers.Given as goal

-- what the loop tests of each stop
abbrev pub rule : ℕ → List ℕ → ℕ → Bool
rule cranes plan p = ltb (follower plan p) (length plan) && may_follow cranes p (follower plan p)

abbrev pub invariant-loop-p : goal.invariant-loop-p
invariant-loop-p l = all_below l.p (rule l.cranes l.plan) ≡ true
