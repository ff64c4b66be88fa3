-- `report::Printed::put_calls` meets its contract: the lines are written one behind another.
-- Assumes nothing.
use lib.ListN.{get_or}
use Rattle.report.specs.Text.{call_lines}
use Rattle.report.specs.Put.{Put}
use Rattle.report.proofs.Printed.put_calls.Given as goal

abbrev pub invariant-loop-i : goal.invariant-loop-i
invariant-loop-i l =
    Put (call_lines l.i (λ j. get_or l.served.cranes j 0) (λ j. get_or l.served.metres j 0) (λ j. get_or l.served.leasts j 0)) l.initial.self.text 0 l.self.text l.self.length
