-- `dispatch::ends::move_all` meets its contract: after each turn the ends so far are at their places, and the others where they were.
-- Assumes nothing.
use Rattle.road.specs.Table.{metres_of, entry}
use Rattle.dispatch.proofs.ends.Laws.{Moving}
use Rattle.dispatch.proofs.ends.move_all.Given as goal

abbrev pub invariant-loop-end : goal.invariant-loop-end
invariant-loop-end l = Moving (entry (metres_of l.instance.table.now)) l.instance.starts.now l.instance.calls.now l.to l.matching.plan l.matching.weights l.matching.costs l.end
