-- What is written of a day, from what serving it gave.
-- Assumes nothing.
use Prim.Native.Nat.{ℕ, ◌*◌, ◌<◌, ◌≤◌}
use mathlib.Core.List.{List, flat_map}
use mathlib.Core.Path.{◌≡◌, sym, ap, ◌∙◌}
use lib.ListN.{length, take}
use Rattle.base.specs.Lists.{up_to}
use Rattle.road.specs.Table.{Table}
use Rattle.dayfile.specs.declared.Day.{Day}
use Rattle.dayfile.specs.Day.{most_calls, DayArrays, day_refusal}
use Rattle.dayfile.proofs.Limits.{day-tested, length_requests}
use Rattle.dispatch.specs.ServedDay.{DayFigures, served_day}
use Rattle.sheet.specs.Row.{row_bytes, Fits}
use Rattle.sheet.specs.Sheet.{row_at, sheet_bytes}
use Rattle.sheet.proofs.Promise.{served_number, served_all, sheet_rows_lem, values_fit, sheet_length}

module _ (day : Day) (t : Table) (s : DayFigures) (told : s ≡ served_day day t) where
  pub told_number : s.number ≡ day_refusal day t
  told_number = ap (λ (f : DayFigures). f.number) told ∙ served_number day t

  module _ (arrays : DayArrays day) (accepted : day_refusal day t ≡ 0) where
    pub told-calls : s.calls ≡ day.calls
    told-calls = ap (λ (f : DayFigures). f.calls) told ∙ served_all day t accepted

    pub few_calls : s.calls ≤ most_calls
    few_calls = rw told-calls (day-tested day t accepted).counts.calls

    -- the places of the calls that were served
    abbrev requests : List ℕ
    requests = take s.calls day.requests

    pub as_many : length requests ≡ s.calls
    as_many = rw told-calls (length_requests day arrays (day-tested day t accepted).counts.calls)

    pub rows_fit : (i : ℕ) → i < length requests → Fits (row_at requests s.cranes s.metres s.leasts i)
    rows_fit i lt = rw (told-calls, told) (values_fit day t accepted arrays i (rw (as_many, told-calls) at lt))

    pub rows_are : flat_map row_bytes (up_to (length requests) (row_at requests s.cranes s.metres s.leasts)) ≡ sheet_bytes day t
    rows_are = rw (as_many, told-calls, told) (ap (flat_map row_bytes) (sym (sheet_rows_lem day t accepted)))

    pub rows_long : length (sheet_bytes day t) ≡ 28 * s.calls
    rows_long = sheet_length day t accepted arrays ∙ rw told-calls
