-- `dayfile::stops::read` meets its contract: the loop fills the list from the front with the places of the records.
-- Assumes nothing.
use lib.ListN.{length}
use Rattle.base.proofs.Lists.{Filled}
use Rattle.dayfile.specs.Codec.{records}
use Rattle.dayfile.specs.File.{stop_from}
use Rattle.dayfile.proofs.stops.read.Given as goal

abbrev pub invariant-loop-i : goal.invariant-loop-i
invariant-loop-i l = Filled (stop_from (records l.bytes) l.from) l.initial.stops (length l.initial.stops) l.stops l.i
