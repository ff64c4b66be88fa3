-- What the tests of a day beside two tables say: the day passes its own tests before 8 over either, and no lower figure exceeds its upper; and
-- that they come in the order of paper 11. Assumes nothing.
use Prim.Native.Nat.{ℕ}
use mathlib.Core.Bool.{true}
use mathlib.Core.Path.{◌≡◌}
use lib.ListN.{length}
use Rattle.base.specs.Numbers.{◌then◌}
use Rattle.base.proofs.Numbers.{then_zero, then_assoc, first_of, unless-zero}
use Rattle.road.specs.Table.{Table, leg_count, legs_rule, run_refusal, legs_refusal}
use Rattle.road.proofs.Table.{run_accepted}
use Rattle.dayfile.specs.declared.Day.{Day}
use Rattle.dayfile.specs.Day.{stops_rule, counts_refusal, stops_refusal, day_starts, day_requests, placed_refusal}
use Rattle.dayfile.proofs.Limits.{CountsTested, counts_tested, counts_accepted, Placed}
use Rattle.rough.specs.Rough.{bounds_rule, bounds_refusal, two_counts_refusal, rough_refusal}

-- the same counts with another table's length
pub counts_with : {n u k m : ℕ} → CountsTested n u k m → (l : ℕ) → l ≡ leg_count n → CountsTested n l k m
counts_with counts l legs = record {
  place = counts.place;
  places = counts.places;
  legs = legs;
  crane = counts.crane;
  cranes = counts.cranes;
  calls = counts.calls;
}

-- what the counts say of each table
pub two_counts : (day : Day) (l u : ℕ) → two_counts_refusal day l u ≡ 0
    → CountsTested day.places l day.cranes day.calls × CountsTested day.places u day.cranes day.calls
unfolding two_counts_refusal
two_counts day l u h =
    let both = then_zero (run_refusal day.places l) _ h in
    let counts = counts_tested day.places u day.cranes day.calls both.1 in
    (counts_with counts l (run_accepted day.places l both.0).1, counts)

-- the day's own test before 8, once the counts and the metres are tested, is that of its places
pub places_left : (day : Day) (t : Table) → CountsTested day.places (length t) day.cranes day.calls → legs_rule t ≡ true
    → placed_refusal day t ≡ (stops_refusal day.places (day_starts day) then stops_refusal day.places (day_requests day))
unfolding placed_refusal
places_left day t counts legs = rw (counts_accepted day.places (length t) day.cranes day.calls counts, legs)

-- what all the tests say
pub record RoughTested (day : Day) (lower upper : Table) : Type 0 where
  pub low : Placed day lower
  pub high : Placed day upper
  pub bounds : bounds_rule lower upper ≡ true

module _ (day : Day) (lower upper : Table) where
  pub rough_tested : rough_refusal day lower upper ≡ 0 → RoughTested day lower upper
  unfolding rough_refusal
  rough_tested h =
      let counted = then_zero (two_counts_refusal day (length lower) (length upper)) _ h in
      let counts = two_counts day (length lower) (length upper) counted.0 in
      let lows = first_of (legs_rule lower) 3 _ counted.1 in
      let highs = first_of (legs_rule upper) 3 _ lows.1 in
      let bounds = first_of (bounds_rule lower upper) 14 _ highs.1 in
      let starts = first_of (stops_rule day.places (day_starts day)) 4 _ bounds.1 in
      let requests = unless-zero (stops_rule day.places (day_requests day)) 4 starts.1 in
      record {
        low = record { counts = counts.0; legs = lows.0; starts = starts.0; requests = requests };
        high = record { counts = counts.1; legs = highs.0; starts = starts.0; requests = requests };
        bounds = bounds.0;
      }

  -- 3 for the places and the lower table's length, 3 for the upper's, 6, 7, 4 for the lower table, 4 for the upper, 15, 5 for the starts, 5 for
  -- the calls, one by one
  pub rough_order : rough_refusal day lower upper
      ≡ (run_refusal day.places (length lower) then counts_refusal day.places (length upper) day.cranes day.calls then legs_refusal lower
      then legs_refusal upper then bounds_refusal lower upper then stops_refusal day.places (day_starts day) then
      stops_refusal day.places (day_requests day))
  unfolding rough_refusal two_counts_refusal
  rough_order = then_assoc (run_refusal day.places (length lower)) (counts_refusal day.places (length upper) day.cranes day.calls) _
