-- `book::weights::Witness::test_vouching` meets its contract: the loop passes the stops p whose inequality holds for every b that may follow it.
-- Assumes nothing.
use Rattle.base.specs.Tests.{all_below}
use mathlib.Core.Path.{◌≡◌}
use mathlib.Core.Bool.{true}
use Rattle.book.specs.Weights.{vouch_from}
use Rattle.book.proofs.weights.Witness.test_vouching.Given as goal

abbrev pub invariant-loop-p : goal.invariant-loop-p
invariant-loop-p l = all_below l.p (vouch_from l.self) ≡ true
