-- `road::triangles::sides_keep` meets its contract: each of the three legs is tested.
-- Assumes nothing.
use mathlib.Core.Bool.{◌&&◌}
use mathlib.Core.Path.{ap₂}
use Rattle.road.specs.Triangles.{sides_rule}
use Rattle.road.proofs.triangles.sides_keep.Goals as goal

pub returns : goal.returns
unfolding sides_rule
returns c = ap₂ ◌&&◌ (ap₂ ◌&&◌ c.no_longer.ensures c.no_longer-2.ensures) c.no_longer-3.ensures
