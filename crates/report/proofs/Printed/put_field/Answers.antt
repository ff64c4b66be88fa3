-- `report::Printed::put_field` meets its contract: the number is written behind the word.
-- Assumes nothing.
use mathlib.Core.Path.{◌≡◌}
use borrow.Author.Rules.{rules}
use lib.ListN.{length}
use native.Mathlib.Omega.{arith}
use Rattle.base.proofs.Decimal.{length-decimal}
use Rattle.report.proofs.text.Laws.{put_on}
use Rattle.report.proofs.Printed.put_field.Goals as goal

pub returns : goal.returns
returns c =
    let long : length c.args.self.now.text ≡ 32768 = search rules in
    put_on c.put.ensures c.put_number.ensures (omega (arith, length-decimal c.args.n))
