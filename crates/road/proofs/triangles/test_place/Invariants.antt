-- `road::triangles::test_place` meets its contract: the loop passes the places v that keep the rule with w and each place before v.
-- Assumes nothing.
use Rattle.base.proofs.Tests.{Passed}
use Rattle.road.specs.Table.{metres_of}
use Rattle.road.specs.Triangles.{pair_rule}
use Rattle.road.proofs.triangles.test_place.Given as goal

abbrev pub invariant-loop-v : goal.invariant-loop-v
invariant-loop-v l = Passed l.w (pair_rule (metres_of l.table) l.w) l.v
