-- `report::day::rows` meets its contract: the line of the refusal, or the rows of the calls.
-- Assumes nothing.
use mathlib.Core.Path.{◌≡◌, refl, ap, ◌∙◌}
use borrow.Author.Rules.{rules}
use lib.ListN.{length}
use native.Mathlib.Omega.{arith}
use Rattle.base.proofs.Numbers.{refused_number}
use Rattle.dayfile.specs.Day.{DayArrays}
use Rattle.report.specs.Report.{printed}
use Rattle.report.proofs.Outputs.{sheet_kept, sheet_refused, sheet_put, put_printed}
use Rattle.report.proofs.day.rows.Goals as goal

pub returns-in-Ok : goal.returns-in-Ok
returns-in-Ok c =
    let long : length c.args.print.now.text ≡ 32768 = search rules in
    let arrays : DayArrays c.args.day = record { starts = search rules; requests = search rules } in
    put_printed c.requires.zeros
    (sheet_put c.args.day c.args.table.now arrays c.args.print.now.text _ c.in-Ok.ensures (omega arith) refl)

pub put_refused-requires : goal.put_refused-requires
put_refused-requires c =
    let long : length c.args.print.now.text ≡ 32768 = search rules in
    let arrays : DayArrays c.args.day = record { starts = search rules; requests = search rules } in
    record {
      front = c.requires.front;
      zeros = sheet_kept c.args.day c.args.table.now arrays c.args.print.now.text _ c.in-Err.ensures (omega arith) (refused_number _) ∙ c.requires.zeros;
    }

pub returns-in-Err : goal.returns-in-Err
returns-in-Err c =
    let long : length c.args.print.now.text ≡ 32768 = search rules in
    let arrays : DayArrays c.args.day = record { starts = search rules; requests = search rules } in
    c.put_refused.ensures
    ∙ ap printed (sheet_refused c.args.day c.args.table.now arrays c.args.print.now.text _ c.in-Err.ensures (omega arith) _ refl (refused_number _))
