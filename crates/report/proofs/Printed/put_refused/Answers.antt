-- `report::Printed::put_refused` meets its contract: the two fields are written one behind another, then the line feed.
-- Assumes nothing.
use mathlib.Core.Path.{◌≡◌, ◌∙◌}
use borrow.Author.Rules.{rules}
use lib.ListN.{length}
use native.Mathlib.Omega.{arith}
use Rattle.base.specs.Numbers.{refusal_number}
use Rattle.base.proofs.Decimal.{length-decimal}
use Rattle.report.specs.Text.{refused_line}
use Rattle.report.proofs.text.Laws.{put_on}
use Rattle.report.proofs.Outputs.{put_printed}
use Rattle.report.proofs.Printed.put_refused.Goals as goal

pub put_field-requires-2 : goal.put_field-requires-2
put_field-requires-2 c = omega (arith, length-decimal c.from-2.result, length-decimal c.args.index, c.requires.front)

pub put-requires : goal.put-requires
put-requires c = omega (arith, length-decimal c.from-2.result, length-decimal c.args.index, c.requires.front)

pub returns : goal.returns
unfolding refused_line
returns c =
    let number = length-decimal c.from-2.result in
    let index = length-decimal c.args.index in
    let front = c.requires.front in
    let long : length c.args.self.now.text ≡ 32768 = search rules in
    let told : c.from-2.result ≡ refusal_number c.args.refusal = c.from-2.ensures ∙ c.from.ensures in
    put_printed c.requires.zeros
    (rw (front, told) at (put_on (put_on c.put_field.ensures c.put_field-2.ensures (omega arith)) c.put.ensures (omega arith)))
