-- `dispatch::plan::instead` meets its contract: it follows the definition. Assumes nothing.
use borrow.Author.Tests.{eq-eqb, ne_eqb}
use Rattle.dispatch.specs.Insertion.{instead}
use Rattle.dispatch.proofs.plan.instead.Goals as goal

pub returns-then-b-old : goal.returns-then-b-old
unfolding instead
returns-then-b-old c = rw (eq-eqb _ _ c.if-b-old.true)

pub returns : goal.returns
unfolding instead
returns c = rw (ne_eqb _ _ c.if-b-old.false)
