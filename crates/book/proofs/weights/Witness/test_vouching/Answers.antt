-- `book::weights::Witness::test_vouching` meets its contract: the loop passes the stops p whose inequality holds for every b that may follow it.
-- Assumes nothing.
use lib.ListN.{length}
use Rattle.base.proofs.Numbers.{up, stops_below}
use Rattle.workfunction.specs.Plan.{vouch_rule}
use Rattle.book.specs.Weights.{vouch_from}
use Rattle.book.proofs.weights.Witness.test_vouching.Goals as goal

pub returns-in_err-test_from : goal.returns-in_err-test_from
unfolding vouch_rule
returns-in_err-test_from c = up _ _ _ c.from_residual.ensures.1
    (stops_below _ (length c.args.self.plan.now) c.loop-p.p 10 (vouch_from c.args.self) c.in_err-test_from.ensures c.loop-p-test.true)
