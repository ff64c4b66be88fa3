-- `near::metres::of_stands` meets its contract: the loop looks up the metres of one crane after another.
-- Assumes nothing.
use lib.ListN.{length, replicate}
use Rattle.base.proofs.Lists.{Filled}
use Rattle.road.specs.Table.{metres_of}
use Rattle.dayfile.specs.Day.{most_cranes}
use Rattle.workfunction.specs.Choice.{drive}
use Rattle.near.proofs.metres.of_stands.Given as goal

abbrev pub invariant-loop-s : goal.invariant-loop-s
invariant-loop-s l = Filled (drive (metres_of l.table) l.stands l.place) (replicate most_cranes 0) (length l.stands) l.metres l.s
