-- `book::fresh::number` meets its contract: the loop fills the plan from the front.
-- Assumes nothing.
use lib.ListN.{length}
use Rattle.base.proofs.Lists.{Filled}
use Rattle.book.proofs.fresh.number.Given as goal

abbrev pub invariant-loop-p : goal.invariant-loop-p
invariant-loop-p l = Filled (λ p. p) l.initial.plan (length l.initial.plan) l.plan l.p
