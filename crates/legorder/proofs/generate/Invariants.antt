-- `legorder::generate` meets its contract: once the legs to the places below v are written, the columns begin with them.
-- Assumes nothing.
use Prim.Native.Nat.{ℕ, ◌≤◌}
use mathlib.Core.List.{List}
use mathlib.Core.Path.{◌≡◌}
use lib.ListN.{length, take}
use Rattle.road.specs.Table.{most_places, most_legs, leg_count, in_order}
use Rattle.legorder.proofs.generate.Given as goal

-- a column that begins with what f has for each leg to the places below v
pub record Begins (f : ℕ → ℕ → ℕ) (now : List ℕ) (v : ℕ) : Type 0 where
  pub most : v ≤ most_places
  pub long : length now ≡ most_legs
  pub front : take (leg_count v) now ≡ in_order f v

abbrev pub invariant-loop-v : goal.invariant-loop-v
invariant-loop-v l = Begins (λ u w. u) l.firsts l.v × Begins (λ u w. w) l.seconds l.v
