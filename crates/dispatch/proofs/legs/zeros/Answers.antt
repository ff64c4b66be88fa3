-- `dispatch::legs::zeros` meets its contract: every number of the table is 0, so every follower has the row of place 0. Assumes nothing.
use Prim.Native.Nat.{ℕ, ◌+◌, ◌*◌}
use lib.ListN.{length-replicate}
use native.Mathlib.Nat.{le_refl}
use native.Mathlib.Omega.{arith}
use Rattle.base.proofs.Lists.{replicate-at}
use Rattle.road.specs.Table.{most_places}
use Rattle.dispatch.specs.Legs.{plan_room, cell, follower_row}
use Rattle.dispatch.proofs.legs.zeros.Goals as goal

pub returns : goal.returns
unfolding cell follower_row
returns c = record {
  long = rw length-replicate (le_refl _);
  rows = λ b h. rw (replicate-at {A = ℕ} (plan_room * (most_places + 1)) _ 0) (omega arith);
}
