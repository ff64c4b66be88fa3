-- `book::weights::Witness::test_from` meets its contract: the loop passes the calls and stands b for which the inequality of p holds.
-- Assumes nothing.
use mathlib.Core.Bool.{true}
use mathlib.Core.Path.{◌≡◌}
use Rattle.base.specs.Tests.{all_below}
use Rattle.book.specs.Weights.{vouches}
use Rattle.book.proofs.weights.Witness.test_from.Given as goal

abbrev pub invariant-loop-b : goal.invariant-loop-b
invariant-loop-b l = all_below l.b (vouches l.self l.p) ≡ true
