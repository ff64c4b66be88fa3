-- `dayfile::legs::put_to` meets its contract: the loop writes the legs' records one behind another.
-- Assumes nothing.
use mathlib.Core.Path.{◌≡◌, ap, ◌∙◌}
use native.Mathlib.Nat.{le_of_lt}
use native.Mathlib.Omega.{arith}
use Rattle.road.specs.Table.{leg_count}
use Rattle.road.proofs.Order.{legs_counted}
use Rattle.road.proofs.Table.{entry_in}
use Rattle.dayfile.specs.Legs.{leg}
use Rattle.dayfile.proofs.codec.Laws.{put_one_begun, put_one_turned}
use Rattle.dayfile.proofs.legs.put_to.Goals as goal
use Rattle.dayfile.proofs.legs.put_to.Goals.{After-legs-from}

-- the legs before those to v
counted : (c : After-legs-from) → c.legs-from.result ≡ leg_count c.args.v
counted c = c.legs-from.ensures ∙ legs_counted _ (le_of_lt c.requires.0)

pub loop-u-init : goal.loop-u-init
loop-u-init c = put_one_begun _ _ _ _ (rw (counted (goal.at.loop-u-init c).After-legs-from) c.requires.1)

pub loop-u-preserved : goal.loop-u-preserved
loop-u-preserved c = put_one_turned _ _ _ _ (rw (counted (goal.at.loop-u-preserved c).After-legs-from) c.requires.1) _ _ _ _ c.loop-u.invariant (omega arith)
    (ap (leg _ _) (c.metres.ensures ∙ entry_in _ _ _ (omega arith) (omega arith))) (rw c.from.ensures at c.put.ensures)
