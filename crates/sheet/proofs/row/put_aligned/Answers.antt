-- `sheet::row::put_aligned` meets its contract: from the last byte back, what is put and the bytes still to be put are the number
-- aligned right. Assumes nothing.
use Prim.Native.Nat.{◌+◌, ◌-◌, ◌%◌}
use mathlib.Core.Path.{◌≡◌, ◌∙◌}
use lib.ListN.{length, set, length-set}
use native.Mathlib.Omega.{arith}
use Rattle.sheet.proofs.row.Laws.{mark_none, mark_some, align_begun, align_turned, align_ended}
use Rattle.sheet.proofs.row.put_aligned.Goals as goal
use Rattle.sheet.proofs.row.put_aligned.Goals.{Start, else-rest-eq0, then-rest-eq0}

-- as long as before the last digit was put
as_long : (c : Start) → length (set c.args.part.now (length c.args.part.now - 1) (48 + c.args.n % 10)) ≡ length c.args.part.now
as_long c = length-set c.args.part.now (length c.args.part.now - 1) (48 + c.args.n % 10)

pub loop-at-init : goal.loop-at-init
loop-at-init c = rw (as_long (goal.at.loop-at-init c).Start) (align_begun c.args.n c.args.part.now c.ranges.n.fits c.requires.0 c.requires.1)

pub loop-at-preserved : goal.loop-at-preserved
loop-at-preserved c = elim c.if-rest-eq0.branch [ then-rest-eq0 w ↦ align_turned c.loop-at.invariant _ c.loop-at-test.true (w.part-is ∙ mark_none _ w.if-rest-eq0.true) | else-rest-eq0 w ↦ align_turned c.loop-at.invariant _ c.loop-at-test.true (w.part-is ∙ mark_some _ w.if-rest-eq0.false) ]

pub returns : goal.returns
returns c = rw (as_long (goal.at.returns c).Start) at (align_ended c.loop-at.invariant (omega arith))
