-- `dispatch::legs::fill_from` meets its contract: the loop fills the row from the front. Assumes nothing.
use lib.ListN.{length, get_or}
use Rattle.base.proofs.Lists.{Filled}
use Rattle.road.specs.Table.{metres_of, entry}
use Rattle.dispatch.proofs.legs.fill_from.Given as goal

abbrev pub invariant-loop-p : goal.invariant-loop-p
invariant-loop-p l = Filled (λ i. entry (metres_of l.table) (get_or l.places i 0) l.to) l.initial.row (length l.initial.row) l.row l.p
