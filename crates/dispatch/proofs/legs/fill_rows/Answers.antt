-- `dispatch::legs::fill_rows` meets its contract: each turn fills one more row. Assumes nothing.
use Rattle.dispatch.proofs.legs.fill_rows.Invariants.{rows_turned}
use Rattle.dispatch.proofs.legs.fill_rows.Goals as goal

pub loop-x-preserved : goal.loop-x-preserved
loop-x-preserved c = rw c.stops-stops.ensures (rows_turned _ _ _ _ _ _ _ c.loop-x.invariant c.loop-x.auto.costs c.requires.0 c.requires.1 c.loop-x-test.true (rw c.stops-stops.ensures at c.fill_row.ensures))
