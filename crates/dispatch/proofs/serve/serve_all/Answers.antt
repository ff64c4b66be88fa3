-- `dispatch::serve::serve_all` meets its contract: after each turn the calls so far are served, and the rest of the day is ahead.
-- Assumes nothing.
use mathlib.Core.Path.{refl}
use borrow.Author.Rules.{rules}
use native.Mathlib.Omega.{arith}
use Rattle.dispatch.proofs.DayServed.{run_begun, run_turned, run_ended}
use Rattle.dispatch.proofs.serve.serve_all.Goals as goal

pub loop-i-init : goal.loop-i-init
loop-i-init c = record { low = search rules; sized = (refl, refl); running = λ n d ways begun called. run_begun _ _ _ _ _ _ _ _ begun }

pub loop-i-preserved : goal.loop-i-preserved
loop-i-preserved c = record {
  low = omega (arith, c.loop-i.invariant.low);
  sized = (omega arith, omega arith);
  running = λ n d ways begun called.
      let run = c.loop-i.invariant.running n d ways begun called in
      run_turned _ _ _ _ _ _ _ _ run c.loop-i-test.true c.requires.sent c.requires.driven c.requires.costed
      (c.serve_call-step.ensures.served.answered n d ways run.kept (called c.loop-i.i c.loop-i-test.true));
}

pub returns-clause-done : goal.returns-clause-done
returns-clause-done c = λ n d ways begun called. run_ended _ _ _ _ _ _ _ _ (c.loop-i.invariant.running n d ways begun called) c.loop-i-test.false
