-- `sheet::rows::put` meets its contract: the rows are written one behind another.
-- Assumes nothing.
use Rattle.sheet.proofs.rows.Laws.{rows_begun, rows_turned, numbered}
use Rattle.sheet.proofs.rows.put.Goals as goal

pub loop-i-init : goal.loop-i-init
loop-i-init c = rows_begun _ _ _ c.requires.fits c.requires.room

pub loop-i-preserved : goal.loop-i-preserved
loop-i-preserved c =
    let told = numbered c.args.requests.now c.args.served.now.cranes c.args.served.now.metres c.args.served.now.leasts c.loop-i.i in
    rows_turned _ _ _ c.requires.fits c.requires.room _ _ _ _ told c.loop-i.invariant
    c.loop-i-test.true (rw (c.from.ensures, c.from-in-loop-i.ensures, c.from-in-loop-i-2.ensures) at c.put.ensures)
