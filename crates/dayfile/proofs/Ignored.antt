-- "Entries past the counts .. are ignored on the way in": days that are the same are tested and written alike.
-- Assumes nothing.
use mathlib.Core.List.{List}
use mathlib.Core.Path.{◌≡◌}
use Prim.Native.Nat.{ℕ}
use Rattle.road.specs.Table.{Table, metres_of}
use Rattle.dayfile.specs.declared.Day.{Day}
use Rattle.dayfile.specs.Day.{SameDay, placed_refusal, day_refusal, day_records}
use Rattle.dayfile.specs.File.{write_file}

module _ (a b : Day) (t : Table) (days : SameDay a b) where
  pub same_placed : placed_refusal a t ≡ placed_refusal b t
  unfolding placed_refusal
  same_placed = rw (days.starts, days.requests, days.places, days.cranes, days.calls)

  pub same-refusal : day_refusal a t ≡ day_refusal b t
  unfolding day_refusal
  same-refusal = rw (same_placed, days.places)

  same-records : day_records a (metres_of t) ≡ day_records b (metres_of t)
  unfolding day_records
  same-records = rw (days.starts, days.requests, days.places)

  pub same-output : (out : List ℕ) → write_file a t out ≡ write_file b t out
  same-output out = rw (same-refusal, same-records)
