-- `dayfile::legs::put_to` meets its contract: the loop writes the legs' records one behind another.
-- Assumes nothing.
use Rattle.base.specs.Lists.{up_to}
use Rattle.road.specs.Table.{metres_of}
use Rattle.dayfile.specs.Legs.{leg}
use Rattle.dayfile.proofs.codec.Laws.{Put}
use Rattle.dayfile.proofs.legs.put_to.Given as goal

abbrev pub invariant-loop-u : goal.invariant-loop-u
invariant-loop-u l = Put (λ k. up_to k (λ j. leg j l.v (metres_of l.table j l.v))) l.from l.initial.out l.v l.out l.u
