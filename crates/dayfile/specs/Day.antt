-- The day of document 01 in memory: the first refusal that applies to it, and its records.
use Rattle.std.specs.Prelude.{ℕ, Bool, List, ◌++◌, map, ◌≡◌, ltb, leb, length, get_or, take}
use Rattle.base.specs.Numbers.{unless, ◌then◌}
use Rattle.base.specs.Tests.{within, all_below}
use Rattle.road.specs.Table.{Table, run_refusal, legs_refusal, triangle_refusal}
use Rattle.dayfile.specs.declared.Day.{Day}
use Rattle.dayfile.specs.declared.codec.Record.{Record}
use Rattle.dayfile.specs.Legs.{leg_records}

-- the most cranes: "1 to 16 cranes"
abbrev pub most_cranes : ℕ
most_cranes = 16

-- the most calls: "0 to 256 calls"
abbrev pub most_calls : ℕ
most_calls = 256

-- "1 to 16 cranes"
abbrev pub cranes_rule : ℕ → Bool
cranes_rule k = within 1 most_cranes k

-- "0 to 256 calls"
abbrev pub calls_rule : ℕ → Bool
calls_rule m = leb m most_calls

-- a place of the table: "below the number of places"
abbrev pub stops_rule : ℕ → List ℕ → Bool
stops_rule n stops = all_below (length stops) (λ i. ltb (get_or stops i 0) n)

-- 3, 6, 7; paper 6: a run of l numbers that aren't the legs of n places gives 3 too
unfoldable pub counts_refusal : ℕ → ℕ → ℕ → ℕ → ℕ
counts_refusal n l k m = run_refusal n l then unless (cranes_rule k) 6 then unless (calls_rule m) 7

-- 5
abbrev pub stops_refusal : ℕ → List ℕ → ℕ
stops_refusal n stops = unless (stops_rule n stops) 5

-- "Entries past the counts .. are ignored on the way in"
abbrev pub day_starts : Day → List ℕ
day_starts day = take day.cranes day.starts

abbrev pub day_requests : Day → List ℕ
day_requests day = take day.calls day.requests

-- the lengths that a day's arrays have by their types: a definition sees an array as a list
pub record DayArrays (day : Day) : Type 0 where
  pub starts : length day.starts ≡ most_cranes
  pub requests : length day.requests ≡ most_calls

-- "Two days are the same if their counts and the entries within them are."
pub record SameDay (a b : Day) : Type 0 where
  pub places : a.places ≡ b.places
  pub cranes : a.cranes ≡ b.cranes
  pub calls : a.calls ≡ b.calls
  pub starts : day_starts a ≡ day_starts b
  pub requests : day_requests a ≡ day_requests b

-- what a day and a book are tested for first: "In memory: 3, 6, 7, 4, 5 (starts, calls ..)"
unfoldable pub placed_refusal : Day → Table → ℕ
placed_refusal day t =
    counts_refusal day.places (length t) day.cranes day.calls then legs_refusal t then
    stops_refusal day.places (day_starts day) then stops_refusal day.places (day_requests day)

-- "In memory: 3, 6, 7, 4, 5 (starts, calls ..), 8"
unfoldable pub day_refusal : Day → Table → ℕ
day_refusal day t = placed_refusal day t then triangle_refusal day.places t

-- the record of a crane or a call
abbrev pub stop : ℕ → ℕ → Record
stop kind p = record { kind = kind; pad = 0; first = p; second = 0; gap = 0; metres = 0 }

-- "All legs come first .. Then come the cranes (starts), then the calls."
unfoldable pub day_records : Day → (ℕ → ℕ → ℕ) → List Record
day_records day d = leg_records d day.places ++ (map (stop 2) (day_starts day) ++ map (stop 3) (day_requests day))
