-- `dispatch::legs::extend` meets its contract: the column of the call is filled, then the call is put at its place as a follower.
-- Assumes nothing.
use Rattle.dispatch.proofs.LegTable.{stop_added}
use Rattle.dispatch.proofs.legs.Laws.{costed_kept}
use Rattle.dispatch.proofs.legs.extend.Goals as goal

pub put-requires : goal.put-requires
put-requires c = (c.requires.0, (c.requires.1.0, costed_kept c.requires.1.1 c.costs-1.given c.fill_column.ensures.rows))

pub returns : goal.returns
returns c = stop_added c.requires.0 c.fill_column.ensures c.put.ensures
