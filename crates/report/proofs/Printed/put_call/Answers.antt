-- `report::Printed::put_call` meets its contract: the four fields are written one behind another, then the line feed.
-- Assumes nothing.
use Prim.Native.Nat.{◌≤◌}
use mathlib.Core.Path.{◌≡◌}
use borrow.Author.Rules.{rules}
use lib.ListN.{length}
use native.Mathlib.Omega.{arith}
use Rattle.base.specs.Decimal.{decimal}
use Rattle.base.proofs.Decimal.{length-decimal}
use Rattle.report.specs.Text.{call_line}
use Rattle.report.proofs.text.Laws.{put_on}
use Rattle.report.proofs.Printed.put_call.Goals as goal
use Rattle.report.proofs.Printed.put_call.Goals.{Start}

short : (c : Start) → (length (decimal c.args.i) ≤ 20) × (length (decimal c.args.crane) ≤ 20) × (length (decimal c.args.metres) ≤ 20) × (length (decimal c.args.least) ≤ 20)
short c = (length-decimal c.args.i, length-decimal c.args.crane, length-decimal c.args.metres, length-decimal c.args.least)

pub put_field-requires-2 : goal.put_field-requires-2
put_field-requires-2 c = omega (arith, short (goal.at.put_field-requires-2 c).Start)

pub put_field-requires-3 : goal.put_field-requires-3
put_field-requires-3 c = omega (arith, short (goal.at.put_field-requires-3 c).Start)

pub put_field-requires-4 : goal.put_field-requires-4
put_field-requires-4 c = omega (arith, short (goal.at.put_field-requires-4 c).Start)

pub put-requires : goal.put-requires
put-requires c = omega (arith, short (goal.at.put-requires c).Start)

pub returns : goal.returns
unfolding call_line
returns c =
    let most = short (goal.at.returns c).Start in
    let long : length c.args.self.now.text ≡ 32768 = search rules in
    put_on (put_on (put_on (put_on c.put_field.ensures c.put_field-2.ensures (omega arith)) c.put_field-3.ensures (omega arith)) c.put_field-4.ensures (omega arith)) c.put.ensures (omega arith)
