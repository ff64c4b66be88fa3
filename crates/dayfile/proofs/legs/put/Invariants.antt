-- `dayfile::legs::put` meets its contract: the legs to each place are written behind those to the earlier ones.
-- Assumes nothing.
use Rattle.road.specs.Table.{metres_of}
use Rattle.dayfile.specs.Legs.{leg_records}
use Rattle.dayfile.proofs.codec.Laws.{Put}
use Rattle.dayfile.proofs.legs.put.Given as goal

abbrev pub invariant-loop-v : goal.invariant-loop-v
invariant-loop-v l = Put (leg_records (metres_of l.table)) 0 l.initial.out l.places l.out l.v
