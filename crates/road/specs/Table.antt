-- The road table: its legs in order, its metres, its rules, and the first refusal that applies to it.
use Rattle.std.specs.Prelude.{ℕ, zero, suc, ◌+◌, ◌-◌, ◌*◌, ◌/◌, Bool, ◌&&◌, cond, List, [], ◌++◌, leb, ltb, eqb, length, get_or, take}
use Rattle.base.specs.Lists.{up_to}
use Rattle.base.specs.Numbers.{unless, ◌then◌}
use Rattle.base.specs.Tests.{within, all_below}

-- the most places: "there are 1 to 64"
abbrev pub most_places : ℕ
most_places = 64

-- the most metres of a leg (paper 1): "its metres give 4 only above 1,000,000"
abbrev pub most_metres : ℕ
most_metres = 1000000

-- the most legs, those of the most places
abbrev pub most_legs : ℕ
most_legs = 2016

-- how many legs there are between so many places; so many come before the first leg to the place of that number
unfoldable pub leg_count : ℕ → ℕ
leg_count n = n * (n - 1) / 2

-- "in the order (0,1), (0,2), (1,2), (0,3), and so on: by second place, then by first": what f has for each leg between the places
-- below n
unfoldable pub in_order : {A : Type 0} → (ℕ → ℕ → A) → ℕ → List A
in_order f zero = []
in_order f (suc v) = in_order f v ++ up_to v (λ u. f u v)

-- the index of the leg (u,v) in that order, u being below v
abbrev pub leg_index : ℕ → ℕ → ℕ
leg_index u v = leg_count v + u

-- how many legs a table has; 0 for more places than a table may have
abbrev pub legs_of : ℕ → ℕ
legs_of n = cond (leb n most_places) (leg_count n) 0

-- paper 6: "The table becomes one run of numbers, the legs in the day file's order, without the self-legs."
abbrev pub Table : Type 0
Table = List ℕ

-- paper 6: of an array that holds the table of n places, "only its legs are the run"
abbrev pub run_of : ℕ → List ℕ → Table
run_of n array = take (leg_count n) array

-- "d(u,w) the metres from u to w"; paper 6: "Both directions of a leg are the same". "A place to itself is 0."
unfoldable pub metres_of : Table → ℕ → ℕ → ℕ
metres_of t u w = cond (ltb u w) (get_or t (leg_index u w) 0) (cond (ltb w u) (get_or t (leg_index w u) 0) 0)

-- what is read off a table for any two numbers: 0 past the most places
unfoldable pub entry : (ℕ → ℕ → ℕ) → ℕ → ℕ → ℕ
entry d u w = cond (ltb u most_places && ltb w most_places) (d u w) 0

-- "Places are numbered from 0; there are 1 to 64."
abbrev pub places_rule : ℕ → Bool
places_rule n = within 1 most_places n

-- paper 1: "a leg between different places may be 0, and its metres give 4 only above 1,000,000"
abbrev pub metres_rule : ℕ → Bool
metres_rule m = leb m most_metres

-- the rule of a leg's metres, for every leg
abbrev pub legs_rule : Table → Bool
legs_rule t = all_below (length t) (λ i. metres_rule (get_or t i 0))

-- "d(u,w) ≤ d(u,v) + d(v,w)"
abbrev pub way_rule : (ℕ → ℕ → ℕ) → ℕ → ℕ → ℕ → Bool
way_rule d u v w = leb (d u w) (d u v + d v w)

-- "For all places u, v, w"
abbrev pub triangle_rule : ℕ → (ℕ → ℕ → ℕ) → Bool
triangle_rule n d = all_below n (λ u. all_below n (λ v. all_below n (way_rule d u v)))

-- "in memory, places not 1 to 64"
abbrev pub places_refusal : ℕ → ℕ
places_refusal n = unless (places_rule n) 3

-- paper 6: "A run longer or shorter than the legs of its stated number of places gives 3." Of n places and l numbers.
unfoldable pub run_refusal : ℕ → ℕ → ℕ
run_refusal n l = places_refusal n then unless (eqb l (leg_count n)) 3

-- "metres outside the rules for a leg"
abbrev pub metres_refusal : ℕ → ℕ
metres_refusal m = unless (metres_rule m) 4

-- paper 6: "4 keeps the metres"
abbrev pub legs_refusal : Table → ℕ
legs_refusal t = unless (legs_rule t) 4

-- "three places break the triangle rule"
abbrev pub triangle_refusal : ℕ → Table → ℕ
triangle_refusal n t = unless (triangle_rule n (metres_of t)) 8

-- a table alone, in memory: 3, then 4, then 8
abbrev pub table_refusal : ℕ → Table → ℕ
table_refusal n t = run_refusal n (length t) then legs_refusal t then triangle_refusal n t
