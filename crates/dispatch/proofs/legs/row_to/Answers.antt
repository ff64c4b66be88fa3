-- `dispatch::legs::row_to` meets its contract: the part of the follower's row has the legs from the stops below its end.
-- Assumes nothing.
use Prim.Native.Nat.{ℕ, ◌+◌, ◌-◌, ◌*◌, ◌≤◌}
use mathlib.Core.List.{List}
use mathlib.Core.Path.{◌≡◌}
use borrow.Author.Rules.{rules}
use lib.ListN.{length, take, drop}
use native.Mathlib.Omega.{arith}
use Rattle.base.specs.Lists.{up_to}
use Rattle.base.proofs.Lists.{part_up_to}
use Rattle.dispatch.specs.Legs.{plan_room, cell, follower_row, leg_at}
use Rattle.dispatch.proofs.legs.row_to.Goals as goal

part : (costs : List ℕ) (b end r : ℕ) → r ≡ follower_row costs b → plan_room * r + end ≤ length costs
    → take (plan_room * r + end - plan_room * r) (drop (plan_room * r) costs) ≡ up_to end (λ p. leg_at costs p b)
unfolding cell leg_at
part costs b end r e fits =
    let n : plan_room * r + end - plan_room * r ≡ end = omega arith in
    rw (n, ← e) (part_up_to end costs (plan_room * r) 0 fits)

pub returns : goal.returns
returns c = part _ _ _ _ c.row_of-from.ensures.0 ((search rules))
