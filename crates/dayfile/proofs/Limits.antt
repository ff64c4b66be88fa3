-- What the tests of a day say: a day is accepted if its counts, legs, stops and ways are within the rules, and only then.
-- Assumes nothing.
use Prim.Native.Nat.{ℕ, ◌<◌, ◌≤◌}
use mathlib.Core.Bool.{true}
use mathlib.Core.List.{List}
use mathlib.Core.Path.{◌≡◌, ap, ◌∙◌}
use borrow.Author.Tests.{leb-true, le-leb, ltb-true, lt-ltb}
use lib.Dec.{ltb}
use lib.ListN.{length, get_or}
use lib.Seq.{length-take-le}
use Rattle.base.specs.Lists.{up_to}
use Rattle.base.proofs.Lists.{length-up_to, get_or-up_to, map-up_to}
use Rattle.base.specs.Numbers.{◌then◌}
use Rattle.base.proofs.Numbers.{unless-zero, then_zero, then_assoc, first_of}
use Rattle.base.proofs.Tests.{within_yes, within_least, within_most, below_at, below_all}
use Rattle.road.specs.Table.{Table, most_places, leg_count, run_refusal, legs_rule, legs_refusal, triangle_refusal}
use Rattle.road.proofs.Table.{run_accepted, run_passes}
use Rattle.road.proofs.Surveyed.{Surveyed, triangles_kept}
use Rattle.dayfile.specs.declared.Day.{Day}
use Rattle.dayfile.specs.Day.{most_cranes, most_calls, cranes_rule, calls_rule, stops_rule, counts_refusal, stops_refusal, day_starts, day_requests, DayArrays, placed_refusal, day_refusal, stop, day_records}
use Rattle.dayfile.proofs.Indices.{laid}

-- stops that are tested are places of the table
pub stop_below : (n : ℕ) (stops : List ℕ) → stops_rule n stops ≡ true → (i : ℕ) → i < length stops → get_or stops i 0 < n
stop_below n stops h i lt = ltb-true (get_or stops i 0) n (below_at (λ j. ltb (get_or stops j 0) n) (length stops) h i lt)

-- stops by a rule
module _ (n k : ℕ) (a : ℕ → ℕ) where
  pub stops_at : stops_rule n (up_to k a) ≡ true → (j : ℕ) → j < k → a j < n
  stops_at h j p = rw (get_or-up_to k a j 0 p) at (stop_below n (up_to k a) h j (rw length-up_to p))

  pub stops_hold : ((j : ℕ) → j < k → a j < n) → stops_rule n (up_to k a) ≡ true
  stops_hold h = below_all _ _ (λ j p. let q : j < k = rw length-up_to at p in rw (get_or-up_to k a j 0 q) (lt-ltb (a j) n (h j q)))

-- a day's arrays have room for its counts
module _ (day : Day) (arrays : DayArrays day) where
  pub enough_starts : day.cranes ≤ most_cranes → day.cranes ≤ length day.starts
  enough_starts h = rw arrays.starts h

  pub enough_requests : day.calls ≤ most_calls → day.calls ≤ length day.requests
  enough_requests h = rw arrays.requests h

  pub length-starts : day.cranes ≤ most_cranes → length (day_starts day) ≡ day.cranes
  length-starts h = length-take-le day.cranes day.starts (enough_starts h)

  pub length_requests : day.calls ≤ most_calls → length (day_requests day) ≡ day.calls
  length_requests h = length-take-le day.calls day.requests (enough_requests h)

-- what the tests of the counts say
pub record CountsTested (n l k m : ℕ) : Type 0 where
  pub place : 1 ≤ n
  pub places : n ≤ most_places
  pub legs : l ≡ leg_count n
  pub crane : 1 ≤ k
  pub cranes : k ≤ most_cranes
  pub calls : m ≤ most_calls

module _ (n l k m : ℕ) where
  pub counts_tested : counts_refusal n l k m ≡ 0 → CountsTested n l k m
  unfolding counts_refusal
  counts_tested h =
      let both = then_zero (run_refusal n l) _ h in
      let run = run_accepted n l both.0 in
      let cranes = first_of (cranes_rule k) 5 _ both.1 in
      record {
        place = within_least 1 most_places n run.0;
        places = within_most 1 most_places n run.0;
        legs = run.1;
        crane = within_least 1 most_cranes k cranes.0;
        cranes = within_most 1 most_cranes k cranes.0;
        calls = leb-true m most_calls (unless-zero (calls_rule m) 6 cranes.1);
      }

  pub run_tested : CountsTested n l k m → run_refusal n l ≡ 0
  run_tested h = run_passes n l h.place h.places h.legs

  pub counts_accepted : CountsTested n l k m → counts_refusal n l k m ≡ 0
  unfolding counts_refusal
  counts_accepted h = rw (run_tested h, within_yes 1 most_cranes k h.crane h.cranes, le-leb m most_calls h.calls)

-- what the tests of a day say that come before the triangles
pub record Placed (day : Day) (t : Table) : Type 0 where
  pub counts : CountsTested day.places (length t) day.cranes day.calls
  pub legs : legs_rule t ≡ true
  pub starts : stops_rule day.places (day_starts day) ≡ true
  pub requests : stops_rule day.places (day_requests day) ≡ true

module _ (day : Day) (t : Table) where
  pub day_placed : placed_refusal day t ≡ 0 → Placed day t
  unfolding placed_refusal
  day_placed h =
      let counts = then_zero (counts_refusal day.places (length t) day.cranes day.calls) _ h in
      let legs = first_of (legs_rule t) 3 _ counts.1 in
      let starts = first_of (stops_rule day.places (day_starts day)) 4 _ legs.1 in
      record {
        counts = counts_tested day.places (length t) day.cranes day.calls counts.0;
        legs = legs.0;
        starts = starts.0;
        requests = unless-zero (stops_rule day.places (day_requests day)) 4 starts.1;
      }

  -- these tests one by one, before another
  pub placed_before : (r : ℕ) → (placed_refusal day t then r)
      ≡ (counts_refusal day.places (length t) day.cranes day.calls then legs_refusal t then stops_refusal day.places (day_starts day) then
      stops_refusal day.places (day_requests day) then r)
  unfolding placed_refusal
  placed_before r =
      then_assoc (counts_refusal day.places (length t) day.cranes day.calls) _ r
      ∙ ap (λ (x : ℕ). counts_refusal day.places (length t) day.cranes day.calls then x) (then_assoc (legs_refusal t) _ r
      ∙ ap (λ (x : ℕ). legs_refusal t then x) (then_assoc (stops_refusal day.places (day_starts day)) _ r))

  pub placed_accepted : Placed day t → placed_refusal day t ≡ 0
  unfolding placed_refusal
  placed_accepted h =
      rw (counts_accepted day.places (length t) day.cranes day.calls h.counts, h.legs, h.starts, h.requests)

-- what all the tests of a day say
pub record Tested (day : Day) (t : Table) : Type 0 where
  pub counts : CountsTested day.places (length t) day.cranes day.calls
  pub surveyed : Surveyed day.places t
  pub starts : stops_rule day.places (day_starts day) ≡ true
  pub requests : stops_rule day.places (day_requests day) ≡ true

module _ (day : Day) (t : Table) where
  -- "In memory: 3, 6, 7, 4, 5 (starts, calls ..), 8", one by one
  pub day_order : day_refusal day t
      ≡ (counts_refusal day.places (length t) day.cranes day.calls then legs_refusal t then stops_refusal day.places (day_starts day) then
      stops_refusal day.places (day_requests day) then triangle_refusal day.places t)
  unfolding day_refusal
  day_order = placed_before day t (triangle_refusal day.places t)

  pub placed_tested : Placed day t → triangle_refusal day.places t ≡ 0 → Tested day t
  placed_tested h triangles = record {
    counts = h.counts;
    surveyed = record { legs = h.legs; triangles = triangles_kept day.places t triangles };
    starts = h.starts;
    requests = h.requests;
  }

  pub tested_placed : Tested day t → Placed day t
  tested_placed h = record { counts = h.counts; legs = h.surveyed.legs; starts = h.starts; requests = h.requests }

  pub day-tested : day_refusal day t ≡ 0 → Tested day t
  unfolding day_refusal
  day-tested h = let both = then_zero (placed_refusal day t) _ h in placed_tested (day_placed day t both.0) both.1

  pub day_accepted : Tested day t → day_refusal day t ≡ 0
  unfolding day_refusal
  day_accepted h = rw (placed_accepted day t (tested_placed h), h.surveyed.triangles)

module _ (day : Day) (d : ℕ → ℕ → ℕ) where
  pub day_laid : (a b : ℕ → ℕ) → day_starts day ≡ up_to day.cranes a → day_requests day ≡ up_to day.calls b
      → day_records day d ≡ laid d day.places a day.cranes b day.calls
  unfolding day_records
  day_laid a b starts requests = rw (starts, requests, map-up_to (stop 2), map-up_to (stop 3))
