-- What a served day gives, for every input.
use Rattle.std.specs.Prelude.{ℕ, List, [], get_or, replicate, Result, Ok, Err}
use Rattle.base.specs.Lists.{padded}
use Rattle.base.specs.declared.Refusal.{Refusal}
use Rattle.base.specs.Numbers.{refusal_number, unless_refused}
use Rattle.road.specs.Table.{Table, metres_of}
use Rattle.dayfile.specs.Day.{most_calls, day_starts, day_requests, day_refusal}
use Rattle.dayfile.specs.declared.Day.{Day}
use Rattle.workfunction.specs.Lists.{sum_below}
use Rattle.workfunction.specs.Movement.{floor}
use Rattle.workfunction.specs.Position.{distance}
use Rattle.workfunction.specs.Serving.{Served, serve, stands_after}
use Rattle.dispatch.specs.declared.ServedDay.{ServedDay}
use Rattle.dispatch.specs.Quote.{unserved}

-- the number, 0 where the day is served; of each call the crane, its metres and the least after it; "the sum of the drives
-- and the floor", and between them paper 8's way home
pub record DayFigures : Type 0 where
  pub number : ℕ
  pub calls : ℕ
  pub cranes : List ℕ
  pub metres : List ℕ
  pub leasts : List ℕ
  pub driven : ℕ
  pub home : ℕ
  pub floor : ℕ

-- the figures of call i
abbrev pub nth : List Served → ℕ → Served
nth all i = get_or all i unserved

-- of m calls served
abbrev pub all_figures : ℕ → List Served → ℕ → ℕ → DayFigures
all_figures m all home floor =
    record {
      number = 0;
      calls = m;
      cranes = padded most_calls m (λ i. (nth all i).crane) 0;
      metres = padded most_calls m (λ i. (nth all i).metres) 0;
      leasts = padded most_calls m (λ i. (nth all i).least) 0;
      driven = sum_below m (λ i. (nth all i).metres);
      home = home;
      floor = floor;
    }

-- "other results 0"
abbrev pub no_figures : ℕ → DayFigures
no_figures n =
    record {
      number = n;
      calls = 0;
      cranes = replicate most_calls 0;
      metres = replicate most_calls 0;
      leasts = replicate most_calls 0;
      driven = 0;
      home = 0;
      floor = 0;
    }

abbrev pub day_figures : Result ServedDay Refusal → DayFigures
day_figures (Ok d) =
    record {
      number = 0;
      calls = d.calls;
      cranes = d.cranes;
      metres = d.metres;
      leasts = d.leasts;
      driven = d.driven;
      home = d.home;
      floor = d.floor;
    }
day_figures (Err r) = no_figures (refusal_number r)

module _ (day : Day) (t : Table) where
  -- paper 8: "the way home: the distance of the last stands from the starts"
  unfoldable pub home_of : ℕ
  home_of =
      distance (metres_of t) (stands_after (metres_of t) day.places (day_starts day) [] (day_starts day) (day_requests day)) (day_starts day)

  -- "serves the calls from a fresh book": its stands are the starts
  unfoldable pub served_day : DayFigures
  served_day =
      unless_refused (day_refusal day t)
      (all_figures day.calls (serve (metres_of t) day.places (day_starts day) [] (day_starts day) (day_requests day)) home_of
      (floor (metres_of t) day.places (day_starts day) (day_requests day)))
      no_figures
