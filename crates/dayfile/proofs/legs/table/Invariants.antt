-- `dayfile::legs::table` meets its contract: the loop fills the table from the front.
-- Assumes nothing.
use Rattle.base.proofs.Lists.{Filled}
use Rattle.dayfile.specs.Codec.{records}
use Rattle.dayfile.specs.Legs.{metres_at}
use Rattle.dayfile.proofs.legs.table.Given as goal

abbrev pub invariant-loop-i : goal.invariant-loop-i
invariant-loop-i l = Filled (metres_at (records l.bytes)) l.initial.table l.legs l.table l.i
