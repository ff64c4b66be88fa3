-- `report::day::lines` meets its contract: the line of the refusal, or the lines of the calls and the last line behind them.
-- Assumes nothing.
use Prim.Native.Nat.{◌≤◌}
use mathlib.Core.Path.{◌≡◌, refl, ap, ◌∙◌}
use borrow.Author.Rules.{rules}
use lib.ListN.{length}
use native.Mathlib.Omega.{arith}
use Rattle.base.proofs.Numbers.{refused_number}
use Rattle.dayfile.specs.Day.{most_calls}
use Rattle.dispatch.specs.ServedDay.{DayFigures}
use Rattle.report.specs.Report.{figures_text, printed}
use Rattle.report.proofs.Outputs.{served-calls, day_refused, day_put, put_printed}
use Rattle.report.proofs.text.Laws.{calls_most}
use Rattle.report.proofs.day.lines.Goals as goal

pub put_calls-requires : goal.put_calls-requires
put_calls-requires c =
    let few : c.in-Ok.served.calls ≤ most_calls = rw (ap (λ (s : DayFigures). s.calls) c.in-Ok.ensures) (served-calls _ _) in
    record { front = c.requires.front; few = few }

pub put_last-requires : goal.put_last-requires
put_last-requires c =
    let few : c.in-Ok.served.calls ≤ most_calls = rw (ap (λ (s : DayFigures). s.calls) c.in-Ok.ensures) (served-calls _ _) in
    omega (arith, few, calls_most _ _ _ _ c.put_calls.ensures)

pub returns-in-Ok : goal.returns-in-Ok
returns-in-Ok c =
    let long : length c.args.print.now.text ≡ 32768 = search rules in
    let few : c.in-Ok.served.calls ≤ most_calls = rw (ap (λ (s : DayFigures). s.calls) c.in-Ok.ensures) (served-calls _ _) in
    rw (← c.in-Ok.ensures) (put_printed c.requires.zeros (day_put _ refl few (omega arith) c.put_calls.ensures c.put_last.ensures))

pub returns-in-Err : goal.returns-in-Err
returns-in-Err c = c.put_refused.ensures ∙ ap printed (day_refused _ _ refl (refused_number _) ∙ ap figures_text c.in-Err.ensures)
