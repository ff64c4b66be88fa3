-- `dispatch::nets::lower` meets its contract: the loop fills the list from the front. Assumes nothing.
use lib.IntN.{pos, ◌-ℤ◌}
use Rattle.base.proofs.Lists.{Filled}
use Rattle.dispatch.specs.Search.{at, net_base}
use Rattle.dispatch.proofs.nets.lower.Given as goal

abbrev pub invariant-loop-e : goal.invariant-loop-e
invariant-loop-e l = Filled (λ s. pos (at l.nets s) -ℤ pos net_base) l.initial.list l.cranes l.list l.e
