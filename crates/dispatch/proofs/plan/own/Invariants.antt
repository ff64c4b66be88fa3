-- `dispatch::plan::own` meets its contract: the loop fills the list from the front. Assumes nothing.
use lib.ListN.{replicate}
use Rattle.base.proofs.Lists.{Filled}
use Rattle.dispatch.specs.Legs.{plan_room}
use Rattle.dispatch.proofs.plan.own.Given as goal

abbrev pub invariant-loop-i : goal.invariant-loop-i
invariant-loop-i l = Filled (λ j. j) (replicate plan_room 0) l.count l.list l.i
