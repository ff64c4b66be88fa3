-- The definitions compute: days beside a lower and an upper table, with what is told of them. Assumes nothing.
use Prim.Native.Nat.{ℕ}
use mathlib.Core.List.{List, [], ◌∷◌, map, flat_map}
use mathlib.Core.Path.{◌≡◌, refl}
use lib.ListN.{length}
use Rattle.base.specs.Lists.{up_to}
use Rattle.base.specs.Tests.{within, all_below}
use Rattle.road.specs.Table.{Table, leg_count, metres_of, run_refusal}
use Rattle.dayfile.specs.declared.Day.{Day}
use Rattle.dayfile.specs.Day.{counts_refusal}
use Rattle.workfunction.specs.Lists.{sum_below, minimum, filter, sections}
use Rattle.workfunction.specs.Plan.{may_follow, follows, followers_rule, once_rule, plan_rule, plan_cost, plans, least_plan, place, leg_cost}
use Rattle.rough.specs.Rough.{bounds_rule, two_counts_refusal, rough_refusal, TwoFloors, rough_of}

-- so many places, starts, calls, the lower and the upper table; the number and the two floors
pub data Case : Type 0 where
  case : ℕ → List ℕ → List ℕ → Table → Table → ℕ → ℕ → ℕ → Case

unfoldable pub cases : List Case
cases =
    -- case A between figures on either side of its own, and by its own
    case 3 (0 ∷ 2 ∷ []) (1 ∷ 0 ∷ 1 ∷ []) (8 ∷ 18 ∷ 12 ∷ []) (12 ∷ 22 ∷ 18 ∷ []) 0 24 36 ∷
    case 3 (0 ∷ 2 ∷ []) (1 ∷ 0 ∷ 1 ∷ []) (10 ∷ 20 ∷ 15 ∷ []) (10 ∷ 20 ∷ 15 ∷ []) 0 30 30 ∷
    -- figures that break the triangle rule
    case 3 (0 ∷ 2 ∷ []) (1 ∷ 0 ∷ 1 ∷ []) (1 ∷ 26 ∷ 1 ∷ []) (10 ∷ 40 ∷ 2 ∷ []) 0 2 4 ∷
    -- a detour is no leg
    case 3 (0 ∷ []) (2 ∷ []) (1 ∷ 10 ∷ 1 ∷ []) (1 ∷ 10 ∷ 1 ∷ []) 0 20 20 ∷
    -- one place, which has no legs
    case 1 (0 ∷ []) (0 ∷ []) [] [] 0 0 0 ∷
    -- 3 for the upper table's length before 6; 6 before 4; 4 before 15; 15 before 5
    case 2 [] [] (1 ∷ []) [] 3 0 0 ∷
    case 2 [] [] (1000001 ∷ []) (1 ∷ []) 6 0 0 ∷
    case 2 (0 ∷ []) [] (1000001 ∷ []) (1000000 ∷ []) 4 0 0 ∷
    case 2 (2 ∷ []) [] (7 ∷ []) (6 ∷ []) 15 0 0 ∷
    case 2 (2 ∷ []) [] (6 ∷ []) (6 ∷ []) 5 0 0 ∷
    []

abbrev day : ℕ → List ℕ → List ℕ → Day
day n starts calls = record { places = n; cranes = length starts; calls = length calls; starts = starts; requests = calls }

unfoldable pub found : Case → TwoFloors
found (case n starts calls lower upper _ _ _) = rough_of (day n starts calls) lower upper

unfoldable pub told : Case → TwoFloors
told (case _ _ _ _ _ number low high) = record { number = number; lower = low; upper = high }

pub cases_agree : map found cases ≡ map told cases
unfolding cases found told rough_of rough_refusal two_counts_refusal bounds_rule run_refusal counts_refusal within all_below leg_count metres_of least_plan plans plan_rule followers_rule once_rule may_follow follows plan_cost place leg_cost minimum filter sections flat_map sum_below up_to
cases_agree = refl
