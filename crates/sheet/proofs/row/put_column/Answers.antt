-- `sheet::row::put_column` meets its contract: a number aligned in a part of the buffer, and the byte behind it.
-- Assumes nothing.
use Rattle.sheet.proofs.row.Laws.{length-aligned, column_put}
use Rattle.sheet.proofs.row.put_column.Goals as goal

pub returns : goal.returns
returns c = let wide = length-aligned c.args.width c.args.n c.requires.wide c.ranges.n.fits c.requires.fits in
    column_put c.args.n c.args.width c.args.end c.args.at c.args.out.now _ c.requires.room wide c.put_aligned.ensures
