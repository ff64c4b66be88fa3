-- `road::triangles::rows_keep` meets its contract: the loop keeps whether the places below u all keep the rule.
-- Assumes nothing.
use mathlib.Core.Bool.{◌&&◌}
use mathlib.Core.Path.{refl, sym, ap₂}
use native.Mathlib.Numerals.{add-one}
use Rattle.base.specs.Tests.{all_below}
use Rattle.road.proofs.triangles.rows_keep.Goals as goal

pub loop-u-init : goal.loop-u-init
unfolding all_below
loop-u-init c = refl

pub loop-u-preserved : goal.loop-u-preserved
unfolding all_below
loop-u-preserved c = rw add-one (ap₂ ◌&&◌ c.loop-u.invariant (sym c.sides_keep-kept.ensures))
