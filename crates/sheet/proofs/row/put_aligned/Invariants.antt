-- `sheet::row::put_aligned` meets its contract: from the last byte back, what is put and the bytes still to be put are the number
-- aligned right. Assumes nothing.
use lib.ListN.{length}
use Rattle.sheet.proofs.row.Laws.{Aligning}
use Rattle.sheet.proofs.row.put_aligned.Given as goal

abbrev pub invariant-loop-at : goal.invariant-loop-at
invariant-loop-at l = Aligning l.n (length l.initial.part) l.part l.at l.rest
