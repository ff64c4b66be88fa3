-- `dispatch::Dispatch::costs` meets its contract: a refusal is handed up with zeros, else the two costs are those of the book.
-- Assumes nothing.
use mathlib.Core.Path.{refl, sym}
use Rattle.base.proofs.Numbers.{told_up, told_ok}
use Rattle.dispatch.specs.Costs.{two_costs, costs_of}
use Rattle.dispatch.proofs.Dispatch.costs.Goals as goal

pub returns-in_err-test : goal.returns-in_err-test
unfolding costs_of
returns-in_err-test c = told_up two_costs _ _ _ _ _ c.from_residual.ensures.1 c.in_err-test.ensures refl

pub accepted-requires : goal.accepted-requires
accepted-requires c = (_, sym c.in_ok-test.ensures)

pub returns : goal.returns
unfolding costs_of
returns c = told_ok _ _ _ _ c.in_ok-test.ensures (c.accepted.ensures _ (sym c.in_ok-test.ensures))
