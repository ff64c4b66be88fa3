-- `dispatch::legs::put_all` meets its contract: after each turn the followers so far are put. Assumes nothing.
use Rattle.dispatch.specs.Legs.{FollowersPut}
use Rattle.dispatch.proofs.legs.put_all.Given as goal

abbrev pub invariant-loop-i : goal.invariant-loop-i
invariant-loop-i l = FollowersPut l.i l.first l.places l.initial.costs l.costs
