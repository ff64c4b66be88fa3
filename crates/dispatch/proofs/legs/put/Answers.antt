-- `dispatch::legs::put` meets its contract: one number of the last row is written. Assumes nothing.
use Prim.Native.Nat.{ℕ, ◌+◌, ◌*◌, ◌<◌}
use mathlib.Core.List.{List}
use mathlib.Core.Path.{◌≡◌}
use lib.ListN.{set, length-set}
use lib.Seq.{get_or-set_same, get_or-set_other}
use native.Mathlib.Decide.{ℕ_discrete}
use native.Mathlib.Omega.{arith}
use Rattle.road.specs.Table.{most_places}
use Rattle.dispatch.specs.Legs.{plan_room, cell, follower_row, Costed, FollowerPut}
use Rattle.dispatch.proofs.legs.put.Goals as goal

module _ (b r : ℕ) (costs : List ℕ) (follower : b < plan_room) (on : r < most_places) (k : Costed costs) where
  abbrev index : ℕ
  index = plan_room * most_places + b

  own : follower_row (set costs index r) b ≡ r
  unfolding cell follower_row
  own = let long = k.long in get_or-set_same costs index r 0 (omega arith)

  other : (a : ℕ) → (a ≡ b → ⊥) → follower_row (set costs index r) a ≡ follower_row costs a
  unfolding cell follower_row
  other a away =
      get_or-set_other costs index (plan_room * most_places + a) r 0 (λ (e : plan_room * most_places + a ≡ index). away (omega arith))

  follower_put : FollowerPut b r costs (set costs index r)
  unfolding cell
  follower_put = record {
    costed = record { long = rw length-set k.long; rows = λ a h. either a h (ℕ_discrete a b) };
    row = own;
    others = other;
    cells = λ i p l lt. get_or-set_other costs index (plan_room * i + p) r 0 (λ (e : plan_room * i + p ≡ index). omega arith);
  }
    where
      either : (a : ℕ) → a < plan_room → Dec (a ≡ b) → follower_row (set costs index r) a < most_places
      either a h (yes e) = rw (e, own) (omega arith)
      either a h (no away) = rw (other a away) (k.rows a h)

pub returns : goal.returns
returns c = follower_put _ _ _ c.requires.0 c.requires.1.0 c.requires.1.1
