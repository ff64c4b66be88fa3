-- `sheet::row::put` meets its contract: the columns are written one behind another.
-- Assumes nothing.
use Rattle.sheet.proofs.row.Laws.{columns_put}
use Rattle.sheet.proofs.row.put.Goals as goal

pub returns : goal.returns
returns c = columns_put c.args.r c.args.at c.args.out.now _ _ _ _ _ c.requires.0 c.requires.1 c.put_column.ensures c.put_column-2.ensures
    c.put_column-3.ensures c.put_column-4.ensures c.put_column-5.ensures
