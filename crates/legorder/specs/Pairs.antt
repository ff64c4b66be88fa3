-- The pairs of places of the legs, in order.
use Rattle.std.specs.Prelude.{ℕ, List, map}
use Rattle.road.specs.Table.{in_order}
use Rattle.legorder.specs.declared.Columns.{Columns}
use Rattle.legorder.specs.declared.Pair.{Pair}

-- the two places of the leg (u,v)
abbrev pub leg_pair : ℕ → ℕ → Pair
leg_pair u v = record { first = u; second = v }

-- paper 7: "the two places of each leg in file order", of the legs between the places below n
abbrev pub pairs : ℕ → List Pair
pairs n = in_order leg_pair n

-- a list of pairs as two columns
abbrev pub columns_of : List Pair → Columns
columns_of l = record { firsts = map (λ (p : Pair). p.first) l; seconds = map (λ (p : Pair). p.second) l }
