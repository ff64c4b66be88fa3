-- The definitions compute: cranes with their metres, and books with what is told of them.
-- Assumes nothing.
use Prim.Native.Nat.{ℕ}
use mathlib.Core.List.{List, [], ◌∷◌, map, head_d}
use mathlib.Core.Path.{◌≡◌, refl}
use lib.IntN.{pos}
use lib.ListN.{replicate}
use Rattle.base.specs.Lists.{up_to, splice}
use Rattle.base.specs.Tests.{within, all_below}
use Rattle.road.specs.Table.{Table, leg_count, metres_of, run_refusal}
use Rattle.dayfile.specs.Day.{counts_refusal, placed_refusal}
use Rattle.dayfile.specs.File.{output_of}
use Rattle.workfunction.specs.Choice.{drive}
use Rattle.workfunction.specs.Lists.{sum_below, filter}
use Rattle.workfunction.specs.Movement.{contains}
use Rattle.workfunction.specs.Plan.{may_follow, follows, followers_rule, once_rule, plan_rule, slack_rule, vouch_at, vouch_rule, place, leg_cost}
use Rattle.book.specs.declared.Book.{Book}
use Rattle.book.specs.Book.{most_stops, weight_rule, book_refusal, fresh_book}
use Rattle.near.specs.Count.{count, first}
use Rattle.near.specs.Near.{precedes, ahead, nth, ordered, cranes_within, nearest, NearCranes, near_after, near_of}
use Rattle.near.specs.Occupancy.{HeldPlaces, occupancy_of}

-- ---- cranes by their metres

-- the metres of each crane, a distance; the list and the nearest
pub data Case : Type 0 where
  case : List ℕ → ℕ → List ℕ → ℕ → Case

unfoldable pub cases : List Case
cases =
    -- the distance itself is included, and of equal metres the lower number comes first
    case (10 ∷ 0 ∷ 10 ∷ 3 ∷ []) 10 (1 ∷ 3 ∷ 0 ∷ 2 ∷ []) 1 ∷
    case (10 ∷ 0 ∷ 10 ∷ 3 ∷ []) 9 (1 ∷ 3 ∷ []) 1 ∷
    -- distance 0
    case (4 ∷ 0 ∷ 0 ∷ []) 0 (1 ∷ 2 ∷ []) 1 ∷
    -- none within, and the nearest all the same
    case (8 ∷ 6 ∷ 7 ∷ []) 5 [] 1 ∷
    []

unfoldable pub found : Case → List ℕ × ℕ
found (case metres distance _ _) = (cranes_within metres distance, nearest metres)

unfoldable pub told : Case → List ℕ × ℕ
told (case _ _ list first) = (list, first)

pub cases_agree : map found cases ≡ map told cases
unfolding cases found told precedes ahead nth ordered cranes_within nearest count first sum_below filter up_to head_d
cases_agree = refl

-- ---- books

-- three places, by the legs (0,1), (0,2), (1,2)
abbrev table : Table
table = 5 ∷ 9 ∷ 7 ∷ []

-- a crane at place 0 and one at place 1
abbrev two : Book
two = fresh_book 2 (0 ∷ 1 ∷ [])

-- a crane that was sent from place 0 to a call at place 1
abbrev sent : Book
sent =
    record {
      cranes = 1;
      calls = 1;
      starts = replicate 16 0;
      stands = 1 ∷ replicate 15 0;
      requests = 1 ∷ replicate 255 0;
      plan = 1 ∷ replicate 271 0;
      weights = replicate most_stops (pos 0);
      driven = 5 ∷ replicate 15 0;
    }

-- what is told: the number, how many cranes, the buffer, the nearest
abbrev near : ℕ → ℕ → List ℕ → ℕ → NearCranes
near number length buffer nearest = record { list = record { number = number; length = length; buffer = buffer }; nearest = nearest }

pub nears_agree :
    -- within 6 metres of place 2 none stands, and crane 1 is the nearest
    near_of two 3 table 2 6 [] ∷
    -- within 7 metres crane 1 does; past the list the buffer is unchanged
    near_of two 3 table 2 7 (99 ∷ 98 ∷ []) ∷
    -- within 9 metres both do; a buffer for one is short
    near_of two 3 table 2 9 (99 ∷ []) ∷
    -- a place outside the table, before the short buffer
    near_of two 3 table 3 9 [] ∷
    -- a book without cranes, before the place
    near_of (fresh_book 0 []) 3 table 3 9 [] ∷
    -- the crane that was sent away is 5 metres off
    near_of sent 3 table 0 4 (99 ∷ []) ∷
    []
    ≡ near 0 0 [] 1 ∷ near 0 1 (1 ∷ 98 ∷ []) 1 ∷ near 11 0 (99 ∷ []) 0 ∷ near 5 0 [] 0 ∷ near 6 0 [] 0 ∷ near 0 0 (99 ∷ []) 0 ∷ []
unfolding near_of near_after output_of splice book_refusal fresh_book placed_refusal counts_refusal run_refusal within all_below leg_count metres_of drive sum_below filter up_to head_d may_follow follows followers_rule once_rule plan_rule slack_rule vouch_at vouch_rule place leg_cost weight_rule count first precedes ahead nth ordered cranes_within nearest
nears_agree = refl

-- what is told: the number, how many places, the lowest free one
abbrev places : ℕ → ℕ → ℕ → HeldPlaces
places number held free = record { number = number; held = held; free = free }

pub occupancies_agree :
    -- places 0 and 1 are held
    occupancy_of two 3 table ∷
    -- place 0 by two cranes
    occupancy_of (fresh_book 2 (0 ∷ 0 ∷ [])) 3 table ∷
    -- the crane that was sent away has left place 0
    occupancy_of sent 3 table ∷
    -- all places are held
    occupancy_of (fresh_book 1 (0 ∷ [])) 1 [] ∷
    []
    ≡ places 0 2 2 ∷ places 0 1 1 ∷ places 0 1 0 ∷ places 0 1 1 ∷ []
unfolding occupancy_of contains book_refusal fresh_book placed_refusal counts_refusal run_refusal within all_below leg_count metres_of sum_below up_to may_follow follows followers_rule once_rule plan_rule slack_rule vouch_at vouch_rule place leg_cost weight_rule count first
occupancies_agree = refl
