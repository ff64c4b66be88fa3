-- Every value of an accepted day fits its column, and what is read of its sheet is the day's values. Assumes nothing.
use Prim.Native.Nat.{ℕ, zero, suc, ◌*◌, ◌<◌, zero-le}
use mathlib.Core.List.{List, [], flat_map}
use mathlib.Core.Path.{◌≡◌, refl, sym, ap, ◌∙◌}
use lib.ListN.{length}
use native.Mathlib.Nat.{zero-lt-suc}
use native.Mathlib.Omega.{arith}
use Rattle.base.specs.Lists.{up_to}
use Rattle.base.specs.Numbers.{unless_refused}
use Rattle.base.proofs.Blocks.{each_up_to, blocks_back}
use Rattle.base.proofs.Lists.{splice-none}
use Rattle.road.specs.Table.{Table}
use Rattle.dayfile.specs.declared.Day.{Day}
use Rattle.dayfile.specs.Day.{day_requests, DayArrays, SameDay, day_refusal}
use Rattle.dayfile.specs.File.{bytes_written}
use Rattle.dayfile.proofs.Ignored.{same-refusal}
use Rattle.dayfile.proofs.Limits.{day-tested, stop_below, length_requests}
use Rattle.dayfile.proofs.Outputs.{output-written, output_accepted, output_bytes}
use Rattle.dispatch.specs.ServedDay.{DayFigures, no_figures, served_day}
use Rattle.dispatch.proofs.Ignored.{same-day-served}
use Rattle.dispatch.proofs.Promise.{day_bounded}
use Rattle.sheet.specs.Row.{row_bytes, Fits, read_row}
use Rattle.sheet.specs.Sheet.{row_of, sheet_rows, sheet_bytes, sheet_of, read_sheet}
use Rattle.sheet.proofs.Reading.{row_back}
use Rattle.sheet.proofs.row.Laws.{length_row}
use Rattle.sheet.proofs.rows.Laws.{length_rows}

number_told : (n : ℕ) (figures : DayFigures) → figures.number ≡ 0 → (unless_refused n figures no_figures).number ≡ n
number_told zero figures e = e
number_told (suc n) figures e = refl

module _ (day : Day) (t : Table) where
  -- a day is refused where it is served by the number of its test
  pub served_number : (served_day day t).number ≡ day_refusal day t
  unfolding served_day
  served_number = number_told (day_refusal day t) _ refl

  module _ (accepted : day_refusal day t ≡ 0) where
    -- every call of the day is served
    pub served_all : (served_day day t).calls ≡ day.calls
    unfolding served_day
    served_all = rw accepted

    pub sheet_rows_lem : sheet_rows day t ≡ up_to day.calls (row_of day t)
    unfolding sheet_rows
    sheet_rows_lem = rw served_all

    module _ (arrays : DayArrays day) where
      -- "Every value within the limits fits."
      pub values_fit : (i : ℕ) → i < day.calls → Fits (row_of day t i)
      values_fit i called =
          let tests = day-tested day t accepted in
          let long = length_requests day arrays tests.counts.calls in
          let place = stop_below day.places (day_requests day) tests.requests i (rw long called) in
          let figures = day_bounded day t arrays accepted i called in
          record {
            call = omega (arith, tests.counts.calls);
            place = omega (arith, tests.counts.places);
            crane = omega (arith, tests.counts.cranes, figures.crane);
            metres = omega (arith, figures.metres);
            least = omega (arith, tests.counts.calls, figures.least);
          }

      -- "rows of 28 bytes"
      pub sheet_length : length (sheet_bytes day t) ≡ 28 * day.calls
      sheet_length = rw sheet_rows_lem (length_rows (row_of day t) day.calls values_fit)

      pub sheet_back : read_sheet (sheet_bytes day t) ≡ sheet_rows day t
      sheet_back =
          rw sheet_rows_lem
          (blocks_back 28 read_row row_bytes (zero-lt-suc 27) (up_to day.calls (row_of day t))
          (each_up_to _ day.calls (row_of day t) (λ i lt. length_row (row_of day t i) (values_fit i lt)))
          (each_up_to _ day.calls (row_of day t) (λ i lt rest. row_back (row_of day t i) rest (values_fit i lt))))

-- "Reading a sheet's digits back gives the day's values": of every sheet that is written, what is read of the bytes written
pub sheet_read : (day : Day) (t : Table) (out : List ℕ) → DayArrays day → (sheet_of day t out).number ≡ 0
    → read_sheet (bytes_written (sheet_of day t out)) ≡ sheet_rows day t
sheet_read day t out arrays h =
    rw (output_bytes _ _ out h) (sheet_back day t (output_accepted _ _ out h).0 arrays)

-- "no calls give no bytes": the buffer is left as it is, and every one is long enough
pub no_rows : (day : Day) (t : Table) (out : List ℕ) → day_refusal day t ≡ 0 → day.calls ≡ 0
    → sheet_of day t out ≡ record { number = 0; length = 0; buffer = out }
unfolding flat_map up_to
no_rows day t out accepted none =
    let bytes : sheet_bytes day t ≡ [] = ap (flat_map row_bytes) (sheet_rows_lem day t accepted ∙ ap (λ (k : ℕ). up_to k (row_of day t)) none) in
    sym (output-written (day_refusal day t) (sheet_bytes day t) out accepted (ap length bytes) out zero-le (rw bytes (splice-none 0 out zero-le)))

-- entries past the counts are ignored
pub same_sheet : (a b : Day) (t : Table) (out : List ℕ) → SameDay a b → sheet_of a t out ≡ sheet_of b t out
unfolding sheet_rows
same_sheet a b t out days = rw (same-refusal a b t days, same-day-served a b t days, days.requests)
