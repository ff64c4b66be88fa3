-- The road table as document 01 has it, a square, with its tests; and its half. No function takes a square.
use Rattle.std.specs.Prelude.{ℕ, Bool, ◌&&◌, cond, List, [], eqb, get_or}
use Rattle.base.specs.Numbers.{unless, ◌then◌}
use Rattle.base.specs.Tests.{all_below}
use Rattle.road.specs.Table.{Table, in_order, metres_rule, triangle_rule, places_refusal}

-- "The road table is a square of rows, one row for each place, one column for each place, in metres."
abbrev pub Square : Type 0
Square = List (List ℕ)

-- "d(u,w) the metres from u to w"
abbrev pub square_metres : Square → ℕ → ℕ → ℕ
square_metres s u w = get_or (get_or s u []) w 0

-- "A place to itself is 0. Between different places it is" at most 1,000,000 (paper 1), "the same both ways." The numbers of
-- the places tell a self-leg, not its metres.
unfoldable pub leg_rule : (ℕ → ℕ → ℕ) → ℕ → ℕ → Bool
leg_rule d u v = cond (eqb u v) (eqb (d u v) 0) (eqb (d u v) (d v u) && metres_rule (d u v))

-- "metres outside the rules for a leg; in memory also a self-leg not 0 or two directions unequal", of every two places
abbrev pub square_legs_refusal : ℕ → Square → ℕ
square_legs_refusal n s = unless (all_below n (λ u. all_below n (leg_rule (square_metres s) u))) 4

-- "three places break the triangle rule"
abbrev pub square_triangle_refusal : ℕ → Square → ℕ
square_triangle_refusal n s = unless (triangle_rule n (square_metres s)) 8

-- a square alone: 3, then 4, then 8. "For every accepted square": where this is 0
unfoldable pub square_refusal : ℕ → Square → ℕ
square_refusal n s = places_refusal n then square_legs_refusal n s then square_triangle_refusal n s

-- paper 6: the half of a square, "the legs in the day file's order, without the self-legs"
abbrev pub half_of : ℕ → Square → Table
half_of n s = in_order (square_metres s) n
