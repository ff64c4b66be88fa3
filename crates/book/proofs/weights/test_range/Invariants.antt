-- `book::weights::test_range` meets its contract: the loop passes the weights within their range.
-- Assumes nothing.
use Prim.Native.Nat.{ℕ}
use mathlib.Core.Bool.{Bool, true}
use mathlib.Core.List.{List}
use lib.IntN.{ℤ}
use mathlib.Core.Path.{◌≡◌}
use Rattle.base.specs.Tests.{all_below}
use Rattle.book.specs.Book.{weight, weight_rule}
use Rattle.book.proofs.weights.test_range.Given as goal

-- what the loop tests of each weight
abbrev pub rule : List ℤ → ℕ → Bool
rule weights b = weight_rule (weight weights b)

abbrev pub invariant-loop-y : goal.invariant-loop-y
invariant-loop-y l = all_below l.y-index (rule l.weights) ≡ true
