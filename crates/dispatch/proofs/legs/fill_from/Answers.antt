-- `dispatch::legs::fill_from` meets its contract: the loop fills the row from the front. Assumes nothing.
use mathlib.Core.List.{append-nil}
use mathlib.Core.Path.{◌∙◌}
use lib.Seq.{drop-length}
use native.Mathlib.Omega.{arith}
use Rattle.base.proofs.Lists.{fill_begun, fill_turned, fill_ended}
use Rattle.dispatch.proofs.legs.fill_from.Goals as goal

pub loop-p-init : goal.loop-p-init
loop-p-init c = fill_begun _ _ _

pub loop-p-preserved : goal.loop-p-preserved
loop-p-preserved c = fill_turned _ _ _ _ _ _ (omega arith) c.loop-p.invariant (omega arith) c.metres.ensures

pub returns : goal.returns
returns c = fill_ended _ _ _ _ _ c.loop-p.invariant (omega arith) ∙ rw drop-length (append-nil _)
