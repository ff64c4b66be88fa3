-- `dispatch::legs::fill_column` meets its contract: each turn fills one more. Assumes nothing.
use Rattle.dispatch.proofs.legs.fill_column.Invariants.{column_turned}
use Rattle.dispatch.proofs.legs.fill_column.Goals as goal

pub loop-x-preserved : goal.loop-x-preserved
loop-x-preserved c = column_turned _ _ _ _ _ _ c.loop-x.invariant c.loop-x.auto.costs c.requires.0 c.requires.1 c.loop-x-test.true c.metres.ensures
