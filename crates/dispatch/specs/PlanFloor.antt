-- The least plan of a day that ends at its starts, over metres that need not keep the triangle rule, for every input: paper 11's floors
-- are two of these.
use Rattle.std.specs.Prelude.{ℕ, Result, Ok, Err}
use Rattle.base.specs.declared.Refusal.{Refusal}
use Rattle.base.specs.Numbers.{refusal_number, unless_refused}
use Rattle.road.specs.Table.{Table, metres_of}
use Rattle.dayfile.specs.declared.Day.{Day}
use Rattle.dayfile.specs.Day.{day_starts, day_requests, placed_refusal}
use Rattle.workfunction.specs.Plan.{plan_floor}

-- the number, 0 where the day is accepted; the floor
pub record FloorTold : Type 0 where
  pub number : ℕ
  pub floor : ℕ

abbrev pub floor_told : Result ℕ Refusal → FloorTold
floor_told (Ok floor) = record { number = 0; floor = floor }
floor_told (Err r) = record { number = refusal_number r; floor = 0 }

-- "the least cost of a plan that ends at the starts under that table. Neither table must keep the triangle rule": the day is tested by 3,
-- 6, 7, 4 and 5
unfoldable pub plan_floor_of : Day → Table → FloorTold
plan_floor_of day t =
    unless_refused (placed_refusal day t) (record { number = 0; floor = plan_floor (metres_of t) (day_starts day) (day_requests day) })
    (λ m. record { number = m; floor = 0 })
