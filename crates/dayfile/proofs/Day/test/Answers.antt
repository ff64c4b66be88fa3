-- `dayfile::Day::test` meets its contract: the refusals before the triangles are handed up, and where none applies 8 decides.
-- Assumes nothing.
use mathlib.Core.Path.{sym}
use Rattle.base.proofs.Numbers.{up, asked_again, goes_on, handed_up}
use Rattle.dayfile.specs.Day.{day_refusal}
use Rattle.dayfile.proofs.Limits.{day_placed, run_tested}
use Rattle.dayfile.proofs.Day.test.Goals as goal

pub returns-in_err-test_placed : goal.returns-in_err-test_placed
unfolding day_refusal
returns-in_err-test_placed c = up _ _ _ c.from_residual.ensures.1 (handed_up _ _ _ c.in_err-test_placed.ensures)

pub returns : goal.returns
unfolding day_refusal
returns c = goes_on _ _ _ c.in_ok-test_placed.ensures
    (asked_again _ _ _ (run_tested _ _ _ _ (day_placed _ _ (sym c.in_ok-test_placed.ensures)).counts) c.test_triangles.ensures)
