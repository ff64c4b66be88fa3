-- `dispatch::search::limit` meets its contract: a stand may follow every stop, a call the earlier ones. Assumes nothing.
use mathlib.Core.Path.{sym}
use Rattle.dispatch.proofs.search.Laws.{reach_stand, reach-call}
use Rattle.dispatch.proofs.search.limit.Goals as goal

pub returns-then-b-cranes : goal.returns-then-b-cranes
returns-then-b-cranes c = sym (reach_stand _ _ _ c.if-b-cranes.true)

pub returns : goal.returns
returns c = sym (reach-call _ _ _ c.if-b-cranes.false)
