-- `road::triangles::test` meets its contract: the loop passes the places w that keep the rule with each two places before them, and that is the
-- rule of all places.
-- Assumes nothing.
use Rattle.base.proofs.Tests.{Passed}
use Rattle.road.specs.Table.{metres_of}
use Rattle.road.specs.Triangles.{place_rule}
use Rattle.road.proofs.triangles.test.Given as goal

abbrev pub invariant-loop-w : goal.invariant-loop-w
invariant-loop-w l = Passed l.places (place_rule (metres_of l.table)) l.w
