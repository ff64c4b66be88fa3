-- `dispatch::legs::row_of` meets its contract: it reads the follower's place in the last row. Assumes nothing.
use Prim.Native.Nat.{◌+◌, ◌*◌}
use mathlib.Core.Path.{refl}
use native.Mathlib.Omega.{arith}
use Rattle.road.specs.Table.{most_places}
use Rattle.dispatch.specs.Legs.{plan_room, cell, follower_row}
use Rattle.dispatch.proofs.legs.row_of.Goals as goal

pub overflow_cast-result : goal.overflow_cast-result
overflow_cast-result c = omega (arith, c.shared_slice_known-1.given (plan_room * most_places + c.args.b))

pub returns : goal.returns
unfolding cell follower_row
returns c = (refl, c.requires.1.rows _ c.requires.0)
