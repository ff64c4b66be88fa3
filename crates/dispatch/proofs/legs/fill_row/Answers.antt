-- `dispatch::legs::fill_row` meets its contract: the row from the starts, then the row from the calls. Assumes nothing.
use Rattle.road.specs.Table.{metres_of, entry}
use Rattle.dispatch.proofs.legs.Laws.{row_joined}
use Rattle.dispatch.proofs.legs.fill_row.Goals as goal

pub returns : goal.returns
returns c = row_joined (λ p. entry (metres_of c.args.instance.table.now) p c.args.to) c.args.instance.starts.now c.args.instance.calls.now c.args.row.now _ _ c.requires.0 c.requires.1
    c.fill_from.ensures c.fill_from-2.ensures
