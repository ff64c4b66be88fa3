-- `dispatch::Dispatch::quote` meets its contract: a refusal is handed up with zeros, else the call is quoted.
-- Assumes nothing.
use mathlib.Core.Path.{refl, sym}
use Rattle.base.proofs.Numbers.{told_up, told_ok}
use Rattle.dispatch.specs.Quote.{quoted, quote_of}
use Rattle.dispatch.proofs.Dispatch.quote.Goals as goal

pub returns-in_err-test : goal.returns-in_err-test
unfolding quote_of
returns-in_err-test c = told_up quoted _ _ _ _ _ c.from_residual.ensures.1 c.in_err-test.ensures refl

pub accepted-requires : goal.accepted-requires
accepted-requires c = (_, sym c.in_ok-test.ensures)

pub returns : goal.returns
unfolding quote_of
returns c = told_ok _ _ _ _ c.in_ok-test.ensures (c.accepted.ensures _ (sym c.in_ok-test.ensures))
