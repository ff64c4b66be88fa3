-- What is promised of the floors of roads known only roughly, for every day and every two tables that are accepted. Assumes nothing.
use Prim.Native.Nat.{ℕ, ◌≤◌}
use mathlib.Core.List.{List}
use mathlib.Core.Path.{◌≡◌, sym}
use lib.ListN.{length}
use native.Mathlib.Nat.{le_trans}
use Rattle.base.proofs.Numbers.{then_zero, zeros_told}
use Rattle.road.specs.Table.{Table, metres_of, run_refusal, table_refusal}
use Rattle.road.proofs.Surveyed.{surveyed_metric, table_surveyed}
use Rattle.road.proofs.Table.{run_accepted}
use Rattle.dayfile.specs.declared.Day.{Day}
use Rattle.dayfile.specs.Day.{day_starts, day_requests, DayArrays, SameDay, day_refusal}
use Rattle.dayfile.proofs.Limits.{day_accepted}
use Rattle.workfunction.specs.Movement.{Instance, Movement, cost, floor}
use Rattle.workfunction.specs.Plan.{LeastOfPlans, plan_floor}
use Rattle.workfunction.proofs.Least.{least_of_plans, plan_floor_more, plan_floor-work}
use Rattle.workfunction.proofs.Movement.{floor_least}
use Rattle.book.specs.declared.Book.{Book}
use Rattle.book.specs.Book.{starts_of, requests_of, book_refusal}
use Rattle.dispatch.specs.Costs.{costs_of}
use Rattle.dispatch.specs.ServedDay.{served_day}
use Rattle.dispatch.proofs.Promise.{day_floor_is}
use Rattle.dispatch.proofs.Roads.{placed_instance}
use Rattle.rough.specs.Rough.{two_counts_refusal, rough_refusal, Between, TwoFloors, no_floors, rough_of}
use Rattle.rough.proofs.bounds.Laws.{bounds_hold, metres_more}
use Rattle.rough.proofs.tests.Laws.{counts_with, RoughTested, rough_tested}

-- a refusal's floors are 0
pub rough_refused : (day : Day) (lower upper : Table) → (rough_refusal day lower upper ≡ 0 → ⊥)
    → rough_of day lower upper ≡ no_floors (rough_refusal day lower upper)
unfolding rough_of
rough_refused day lower upper r = sym (zeros_told (rough_refusal day lower upper) _ no_floors r)

module _ (day : Day) (lower upper : Table) (arrays : DayArrays day) (accepted : rough_refusal day lower upper ≡ 0) where
  -- what is told
  abbrev told : TwoFloors
  told = rough_of day lower upper

  abbrev starts : List ℕ
  starts = day_starts day

  abbrev calls : List ℕ
  calls = day_requests day

  tested : RoughTested day lower upper
  tested = rough_tested day lower upper accepted

  day_instance : Instance day.places starts calls
  day_instance = placed_instance tested.low arrays

  lower_is : told.lower ≡ plan_floor (metres_of lower) starts calls
  unfolding rough_of
  lower_is = rw accepted

  upper_is : told.upper ≡ plan_floor (metres_of upper) starts calls
  unfolding rough_of
  upper_is = rw accepted

  -- "each the least cost of a plan that ends at the starts under that table": some plan costs it, and none less
  pub lower_least : LeastOfPlans (metres_of lower) starts calls told.lower
  lower_least = rw lower_is (least_of_plans day_instance (metres_of lower))

  pub upper_least : LeastOfPlans (metres_of upper) starts calls told.upper
  upper_least = rw upper_is (least_of_plans day_instance (metres_of upper))

  -- the lower floor is no higher than the upper
  pub rough_ordered : told.lower ≤ told.upper
  rough_ordered =
      let figures = bounds_hold day.places lower upper tested.bounds tested.low.counts.legs in
      rw (lower_is, upper_is) (plan_floor_more day_instance (metres_more day.places lower upper figures))

  -- "For every accepted table that lies between them leg by leg"
  module _ (t : Table) (table : table_refusal day.places t ≡ 0) (between : Between day.places lower t upper) where
    -- "the true floor lies between the two results"
    pub rough_between : (told.lower ≤ floor (metres_of t) day.places starts calls) × (floor (metres_of t) day.places starts calls ≤ told.upper)
    rough_between =
        let true-floor = plan_floor-work day_instance (surveyed_metric (table_surveyed day.places t table)) in
        rw (lower_is, upper_is, ← true-floor) (
          plan_floor_more day_instance (metres_more day.places lower t between.low),
          plan_floor_more day_instance (metres_more day.places t upper between.high),
        )

    -- the day is accepted with it
    day_with : day_refusal day t ≡ 0
    day_with =
        let run = run_accepted day.places (length t) (then_zero (run_refusal day.places (length t)) _ table).0 in
        day_accepted day t (record {
          counts = counts_with tested.low.counts (length t) run.1;
          surveyed = table_surveyed day.places t table;
          starts = tested.low.starts;
          requests = tested.low.requests;
        })

    -- as the served day tells it
    pub served_between : (told.lower ≤ (served_day day t).floor) × ((served_day day t).floor ≤ told.upper)
    served_between = rw (day_floor_is day t arrays day_with) rough_between

    -- as every book of these starts and calls tells it
    pub book_between : (book : Book) → book_refusal book day.places t ≡ 0 → starts_of book ≡ starts → requests_of book ≡ calls
        → (told.lower ≤ (costs_of book day.places t).floor) × ((costs_of book day.places t).floor ≤ told.upper)
    unfolding costs_of
    book_between book sound same-starts same-calls = rw (sound, same-starts, same-calls) rough_between

    -- so no movement that brings the cranes back costs less than the lower floor, several cranes at a time included
    pub no_movement_below : (M : List (List ℕ)) → Movement day.places (length starts) calls M → told.lower ≤ cost (metres_of t) starts M starts
    no_movement_below M moves = le_trans rough_between.0 ((floor_least (metres_of t) day_instance).below M moves)

    -- and some movement costs no more than the upper
    pub some_movement_within : (M : List (List ℕ)) × Movement day.places (length starts) calls M × (cost (metres_of t) starts M starts ≤ told.upper)
    some_movement_within =
        let best = (floor_least (metres_of t) day_instance).attained in
        (best.0, best.1, rw best.2 rough_between.1)

-- "Entries past the counts .. are ignored on the way in": days that are the same have the same floors
pub same_rough : (a b : Day) (lower upper : Table) → SameDay a b → rough_of a lower upper ≡ rough_of b lower upper
unfolding rough_of rough_refusal two_counts_refusal
same_rough a b lower upper days = rw (days.starts, days.requests, days.places, days.cranes, days.calls)
