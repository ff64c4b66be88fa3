-- `dispatch::legs::fill` meets its contract: the rows of the places are filled, then the cranes and the calls are put at theirs.
-- Assumes nothing.
use Rattle.dispatch.proofs.LegTable.{table_filled}
use Rattle.dispatch.proofs.legs.fill.Goals as goal

pub returns : goal.returns
returns c = table_filled c.requires.few c.fill_rows.ensures c.requires.aligned c.put_all.ensures c.put_all-2.ensures
