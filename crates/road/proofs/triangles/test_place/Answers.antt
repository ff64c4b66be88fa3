-- `road::triangles::test_place` meets its contract: the loop passes the places v that keep the rule with w and each place before v.
-- Assumes nothing.
use Rattle.base.proofs.Numbers.{up, turns, stops_below}
use Rattle.base.proofs.Tests.{begun}
use Rattle.road.specs.Table.{metres_of}
use Rattle.road.specs.Triangles.{pair_rule}
use Rattle.road.proofs.triangles.test_place.Goals as goal

pub loop-v-init : goal.loop-v-init
loop-v-init c = begun _ _

pub returns-in_err-test_pair : goal.returns-in_err-test_pair
returns-in_err-test_pair c = up _ _ _ c.from_residual.ensures.1
    (stops_below _ c.args.w c.loop-v.v 8 (pair_rule (metres_of c.args.table.now) c.args.w) c.in_err-test_pair.ensures c.loop-v-test.true)

pub loop-v-preserved : goal.loop-v-preserved
loop-v-preserved c = turns _ c.loop-v.v 7 _ c.in_ok-test_pair.ensures c.loop-v-test.true c.loop-v.invariant
