-- `dayfile::stops::put` meets its contract: the loop writes the stops' records one behind another.
-- Assumes nothing.
use lib.ListN.{length, get_or}
use Rattle.base.specs.Lists.{up_to}
use Rattle.dayfile.specs.Codec.{kind_number}
use Rattle.dayfile.specs.Day.{stop}
use Rattle.dayfile.proofs.codec.Laws.{Put}
use Rattle.dayfile.proofs.stops.put.Given as goal

abbrev pub invariant-loop-i : goal.invariant-loop-i
invariant-loop-i l = Put (λ k. up_to k (λ j. stop (kind_number l.kind) (get_or l.stops j 0))) l.from l.initial.out (length l.stops) l.out l.i
