-- `road::legs::metres` meets its contract: past the most places it is 0, past the run too, and within both it is the leg's.
-- Assumes nothing.
use Prim.Native.Nat.{ℕ, ◌+◌, ◌<◌, ◌≤◌}
use mathlib.Core.Path.{◌≡◌, sym, ap, ◌∙◌}
use lib.ListN.{get_or, get_or-eq_default}
use native.Mathlib.Nat.{le_of_lt}
use native.Mathlib.Omega.{arith}
use Rattle.road.specs.Table.{Table, most_places, most_legs, legs_of, metres_of, entry}
use Rattle.road.proofs.Order.{legs_counted, leg_count_most}
use Rattle.road.proofs.Table.{entry_in, entry_past, metres_up}
use Rattle.road.proofs.legs.metres.Goals as goal

module _ (v legs : ℕ) (below : v < most_places) (told : legs ≡ legs_of v) where
  few : legs ≤ most_legs
  few = rw (told ∙ legs_counted v (le_of_lt below)) (leg_count_most v (le_of_lt below))

  there : (t : Table) (u : ℕ) → u < v → get_or t (legs + u) 0 ≡ entry (metres_of t) u v
  there t u lt =
      ap (λ (i : ℕ). get_or t (i + u) 0) (told ∙ legs_counted v (le_of_lt below))
      ∙ sym (entry_in (metres_of t) u v (omega arith) below ∙ metres_up t u v lt)

pub returns-then-v-ge-PLACES : goal.returns-then-v-ge-PLACES
returns-then-v-ge-PLACES c = sym (entry_past _ _ _ c.if-v-ge-PLACES.true)

pub overflow_add-index : goal.overflow_add-index
overflow_add-index c = omega (arith, few c.args.v _ c.if-v-ge-PLACES.false c.legs.ensures, c.requires)

pub returns-then-table-index : goal.returns-then-table-index
returns-then-table-index c = sym (get_or-eq_default c.args.table.now 0 {n = c.legs.result + c.args.u} (omega (arith, c.if-table-index.true)))
    ∙ there c.args.v _ c.if-v-ge-PLACES.false c.legs.ensures c.args.table.now c.args.u c.requires

pub returns : goal.returns
returns c = there c.args.v _ c.if-v-ge-PLACES.false c.legs.ensures c.args.table.now c.args.u c.requires
