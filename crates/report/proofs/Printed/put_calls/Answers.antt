-- `report::Printed::put_calls` meets its contract: the lines are written one behind another.
-- Assumes nothing.
use mathlib.Core.Path.{◌≡◌}
use borrow.Author.Rules.{rules}
use lib.ListN.{length}
use native.Mathlib.Omega.{arith}
use Rattle.report.proofs.text.Laws.{calls_most, no_calls_put, call_put}
use Rattle.report.proofs.Printed.put_calls.Goals as goal

pub loop-i-init : goal.loop-i-init
loop-i-init c = rw c.requires.front (no_calls_put _ _ _ c.args.self.now.text)

pub put_call-requires : goal.put_call-requires
put_call-requires c = omega (arith, c.requires.few, calls_most _ _ _ _ c.loop-i.invariant)

pub loop-i-preserved : goal.loop-i-preserved
loop-i-preserved c =
    let long : length c.args.self.now.text ≡ 32768 = search rules in
    call_put _ _ _ c.loop-i.i (omega (arith, c.requires.few)) c.loop-i.invariant (rw (c.from.ensures, c.from-in-loop-i.ensures) at c.put_call.ensures)
