-- `dispatch::search::heads_of` meets its contract: the loop fills the heads from the front. Assumes nothing.
use mathlib.Core.Path.{◌∙◌}
use native.Mathlib.Omega.{arith}
use Rattle.base.proofs.Lists.{fill_begun, fill_turned, filled_at}
use Rattle.book.proofs.Vouching.{read_back}
use Rattle.dispatch.proofs.search.heads_of.Goals as goal
use Rattle.dispatch.proofs.search.heads_of.Goals.{In-loop-p}

pub loop-p-init : goal.loop-p-init
loop-p-init c = fill_begun _ _ _

pub loop-p-preserved : goal.loop-p-preserved
loop-p-preserved c = fill_turned _ _ _ _ _ _ (omega arith) c.loop-p.invariant c.loop-p-test.true
    (c.head.ensures ∙ rw (read_back _ c.head-arg-1.given, c.cost.ensures))

pub returns : goal.returns
returns c = λ p lt. filled_at _ c.loop-p.invariant 0 p (omega arith)
