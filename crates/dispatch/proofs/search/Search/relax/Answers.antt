-- `dispatch::search::Search::relax` meets its contract: the loop has done its work on the stops below p. Assumes nothing.
use mathlib.Core.Path.{refl}
use borrow.Author.Rules.{rules}
use Rattle.dispatch.proofs.search.Search.relax.Invariants.{relax_begun, relax_ended, relax_kept, relax_taken}
use Rattle.dispatch.proofs.search.Search.relax.Goals as goal
use Rattle.dispatch.proofs.search.Search.relax.Goals.{else-total-self, then-total-self}

pub loop-p-init : goal.loop-p-init
loop-p-init c = (refl, relax_begun _ _ _ _ _)

pub loop-p-preserved : goal.loop-p-preserved
loop-p-preserved c = elim c.if-total-self.branch [
  | then-total-self w ↦ rw w.self-is (c.loop-p.invariant.0, relax_taken _ _ _ _ _ c.loop-p.invariant.1 c.loop-p-test.true (search rules) (search rules) w.if-total-self.true)
  | else-total-self w ↦ rw w.self-is (c.loop-p.invariant.0, relax_kept _ _ _ _ _ c.loop-p.invariant.1 c.loop-p-test.true w.if-total-self.false)
]

pub returns : goal.returns
returns c = (c.loop-p.invariant.0, relax_ended _ _ _ _ _ c.loop-p.invariant.1 c.loop-p-test.false)
