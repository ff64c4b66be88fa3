-- `book::driven::test` meets its contract: the loop passes the cranes whose metres are within the most.
-- Assumes nothing.
use Prim.Native.Nat.{ℕ}
use mathlib.Core.Bool.{Bool, true}
use mathlib.Core.List.{List}
use lib.Dec.{leb}
use lib.ListN.{get_or}
use Rattle.base.specs.Tests.{all_below}
use mathlib.Core.Path.{◌≡◌}
use Rattle.book.proofs.driven.test.Given as goal

-- what the loop tests of each crane
abbrev pub rule : ℕ → List ℕ → ℕ → Bool
rule most driven j = leb (get_or driven j 0) most

abbrev pub invariant-loop-metres : goal.invariant-loop-metres
invariant-loop-metres l = all_below l.metres-index (rule l.most l.driven) ≡ true
