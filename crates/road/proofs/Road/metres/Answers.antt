-- `road::Road::metres` meets its contract: a leg is read from its earlier place to its later one, and a self-leg is 0.
-- Assumes nothing.
use Prim.Native.Nat.{ℕ, ◌<◌}
use mathlib.Core.Path.{◌≡◌, sym, ◌∙◌}
use native.Mathlib.Decide.{dec_lt}
use native.Mathlib.Nat.{le_antisymm}
use native.Mathlib.Omega.{arith}
use Rattle.road.specs.Table.{Table, most_places, metres_of, entry}
use Rattle.road.proofs.Table.{entry_in, entry_past, entry_both, metres_self, metres_both}
use Rattle.road.proofs.Road.metres.Goals as goal

-- a self-leg, whatever the place
self : (t : Table) (u v : ℕ) → u ≡ v → 0 ≡ entry (metres_of t) u v
self t u v e = either (dec_lt v most_places)
  where
    either : Dec (v < most_places) → 0 ≡ entry (metres_of t) u v
    either (yes l) = sym (entry_in (metres_of t) u v (omega arith) l ∙ metres_self t u v e)
    either (no n) = sym (entry_past (metres_of t) u v (omega arith))

pub returns-then-to-from : goal.returns-then-to-from
returns-then-to-from c = c.metres-then-to-from.ensures ∙ entry_both _ _ _ (metres_both _ _ _)

pub returns : goal.returns
returns c = self _ _ _ (le_antisymm c.if-to-from.false c.if-from-to.false)
