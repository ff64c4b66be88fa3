-- `road::legs::test` meets its contract: the loop passes the legs whose metres are within the limit.
-- Assumes nothing.
use lib.ListN.{length}
use Rattle.base.proofs.Numbers.{up, turns, stops_below}
use Rattle.base.proofs.Tests.{begun}
use Rattle.road.proofs.legs.test.Invariants.{rule}
use Rattle.road.proofs.legs.test.Goals as goal

pub loop-metres-init : goal.loop-metres-init
loop-metres-init c = begun _ _

pub returns-in_err-test_metres : goal.returns-in_err-test_metres
returns-in_err-test_metres c = up _ _ _ c.from_residual.ensures.1
    (stops_below _ (length c.args.table.now) c.loop-metres.metres-index 4 (rule c.args.table.now) c.in_err-test_metres.ensures c.loop-metres-test.true)

pub loop-metres-preserved : goal.loop-metres-preserved
loop-metres-preserved c = turns _ c.loop-metres.metres-index 3 _ c.in_ok-test_metres.ensures c.loop-metres-test.true c.loop-metres.invariant
