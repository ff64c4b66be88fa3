-- Roads known only roughly, for every input: paper 11.
use Rattle.std.specs.Prelude.{ℕ, ◌<◌, ◌≤◌, Bool, leb, length, get_or, Result, Ok, Err}
use Rattle.base.specs.declared.Refusal.{Refusal}
use Rattle.base.specs.Numbers.{refusal_number, unless, ◌then◌, unless_refused}
use Rattle.base.specs.Tests.{all_below}
use Rattle.road.specs.Table.{Table, leg_count, metres_of, run_refusal, legs_refusal}
use Rattle.dayfile.specs.declared.Day.{Day}
use Rattle.dayfile.specs.Day.{counts_refusal, stops_refusal, day_starts, day_requests}
use Rattle.workfunction.specs.Plan.{plan_floor}
use Rattle.rough.specs.declared.RoughFloors.{RoughFloors}

-- of "a lower and an upper figure" for each leg none has the lower above the upper
unfoldable pub bounds_rule : Table → Table → Bool
bounds_rule lower upper = all_below (length lower) (λ i. leb (get_or lower i 0) (get_or upper i 0))

-- "15 when a lower figure exceeds its upper"
abbrev pub bounds_refusal : Table → Table → ℕ
bounds_refusal lower upper = unless (bounds_rule lower upper) 15

-- "two half tables for one number of places": 3 for the places, for the l numbers of the lower table and for the u of the upper; then 6, 7
unfoldable pub two_counts_refusal : Day → ℕ → ℕ → ℕ
two_counts_refusal day l u = run_refusal day.places l then counts_refusal day.places u day.cranes day.calls

-- 4 for the lower and then the upper table, 15 "right after the metres", then 5 for the starts and the calls; no 8, since "Neither table must
-- keep the triangle rule"
unfoldable pub rough_refusal : Day → Table → Table → ℕ
rough_refusal day lower upper =
    two_counts_refusal day (length lower) (length upper) then legs_refusal lower then legs_refusal upper then bounds_refusal lower upper then
    stops_refusal day.places (day_starts day) then stops_refusal day.places (day_requests day)

-- for the theorems: a table that "lies between them leg by leg", all three of n places
pub record Between (n : ℕ) (lower t upper : Table) : Type 0 where
  pub low : (i : ℕ) → i < leg_count n → get_or lower i 0 ≤ get_or t i 0
  pub high : (i : ℕ) → i < leg_count n → get_or t i 0 ≤ get_or upper i 0

-- the number, 0 where the inputs are accepted; the two floors
pub record TwoFloors : Type 0 where
  pub number : ℕ
  pub lower : ℕ
  pub upper : ℕ

-- a refusal's floors are 0
abbrev pub no_floors : ℕ → TwoFloors
no_floors m = record { number = m; lower = 0; upper = 0 }

abbrev pub two_floors : Result RoughFloors Refusal → TwoFloors
two_floors (Ok f) = record { number = 0; lower = f.lower; upper = f.upper }
two_floors (Err r) = no_floors (refusal_number r)

-- "a lower and an upper floor, each the least cost of a plan that ends at the starts under that table"
unfoldable pub rough_of : Day → Table → Table → TwoFloors
rough_of day lower upper =
    unless_refused (rough_refusal day lower upper)
    (record {
      number = 0;
      lower = plan_floor (metres_of lower) (day_starts day) (day_requests day);
      upper = plan_floor (metres_of upper) (day_starts day) (day_requests day);
    })
    no_floors
