-- `book::weights::test_range` meets its contract: the loop passes the weights within their range.
-- Assumes nothing.
use lib.ListN.{length}
use Rattle.base.proofs.Numbers.{up, stops_below}
use Rattle.book.proofs.Vouching.{read_back}
use Rattle.book.proofs.weights.test_range.Invariants.{rule}
use Rattle.book.proofs.weights.test_range.Goals as goal

pub returns-in_err-test_weight : goal.returns-in_err-test_weight
returns-in_err-test_weight c = up _ _ _ c.from_residual.ensures.1
    (stops_below _ (length c.args.weights.now) c.loop-y.y-index 10 (rule c.args.weights.now) (rw (read_back _ c.test_weight-arg-1.given) at c.in_err-test_weight.ensures) c.loop-y-test.true)
