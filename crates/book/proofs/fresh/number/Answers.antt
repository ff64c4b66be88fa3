-- `book::fresh::number` meets its contract: the loop fills the plan from the front.
-- Assumes nothing.
use mathlib.Core.Path.{refl}
use native.Mathlib.Omega.{arith}
use Rattle.base.proofs.Lists.{fill_begun, fill_turned}
use Rattle.book.proofs.fresh.number.Goals as goal

pub loop-p-init : goal.loop-p-init
loop-p-init c = fill_begun _ _ _

pub loop-p-preserved : goal.loop-p-preserved
loop-p-preserved c = fill_turned _ _ _ _ _ _ (omega arith) c.loop-p.invariant c.loop-p-test.true refl
