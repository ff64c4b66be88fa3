-- `dayfile::stops::put` meets its contract: the loop writes the stops' records one behind another.
-- Assumes nothing.
use mathlib.Core.Path.{refl, ◌∙◌}
use native.Mathlib.Omega.{arith}
use Rattle.base.proofs.Lists.{map_by_index, splice_ended}
use Rattle.dayfile.specs.Day.{stop}
use Rattle.dayfile.proofs.codec.Laws.{put_one_begun, put_one_turned}
use Rattle.dayfile.proofs.stops.put.Goals as goal

pub loop-i-init : goal.loop-i-init
loop-i-init c = put_one_begun _ _ _ _ c.requires

pub loop-i-preserved : goal.loop-i-preserved
loop-i-preserved c = put_one_turned _ _ _ _ c.requires _ _ _ _ c.loop-i.invariant (omega arith) refl (rw c.from.ensures at c.put.ensures)

pub returns : goal.returns
returns c = splice_ended _ _ _ _ _ _ c.loop-i.invariant (omega arith) ∙ rw (map_by_index (stop _) _ 0)
