-- `report::Printed::put_number` meets its contract: the digits that are written at the end of the array are those of the number.
-- Assumes nothing.
use native.Mathlib.Omega.{arith}
use Rattle.base.proofs.Decimal.{length-decimal}
use Rattle.report.proofs.text.Laws.{decimal_same, decimal_end}
use Rattle.report.proofs.Printed.put_number.Goals as goal

pub write_digits-start-requires : goal.write_digits-start-requires
write_digits-start-requires c = rw (decimal_same c.args.n c.ranges.n.fits) (length-decimal c.args.n, omega arith)

pub returns : goal.returns
returns c =
    let start = c.write_digits-start in
    rw (decimal_end c.args.n start.result start.new.buf _ c.ranges.n.fits start.ensures.start start.ensures.written) at c.put.ensures
