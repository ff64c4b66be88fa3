-- `dispatch::Dispatch::net_costs` meets its contract: a refusal is handed up with zeros, else the list is told.
-- Assumes nothing.
use mathlib.Core.Path.{refl, sym}
use Rattle.base.proofs.Numbers.{told_up, told_ok}
use Rattle.dispatch.specs.NetCosts.{net_list, nets_of}
use Rattle.dispatch.proofs.Dispatch.net_costs.Goals as goal

pub returns-in_err-test : goal.returns-in_err-test
unfolding nets_of
returns-in_err-test c = told_up net_list _ _ _ _ _ c.from_residual.ensures.1 c.in_err-test.ensures refl

pub accepted-requires : goal.accepted-requires
accepted-requires c = (_, sym c.in_ok-test.ensures)

pub returns : goal.returns
unfolding nets_of
returns c = told_ok _ _ _ _ c.in_ok-test.ensures (c.accepted.ensures _ (sym c.in_ok-test.ensures))
