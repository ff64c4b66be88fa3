-- The sheet of a day, for all days, tables and buffers, and its values read back.
use Rattle.std.specs.Prelude.{ℕ, ◌*◌, ◌<◌, ◌≤◌, length, get_or}
use mathlib.Core.List.{List, flat_map}
use Rattle.base.specs.Lists.{up_to, blocks}
use Rattle.road.specs.Table.{Table}
use Rattle.dayfile.specs.declared.Day.{Day}
use Rattle.dayfile.specs.Day.{day_requests, day_refusal}
use Rattle.dayfile.specs.File.{Output, output_of}
use Rattle.dispatch.specs.ServedDay.{served_day}
use Rattle.sheet.specs.declared.row.Row.{Row}
use Rattle.sheet.specs.Row.{row_bytes, Fits, read_row}

-- the values of call i, whose place, crane, metres and least stand at i in the lists; call numbers are from 0, as in the print
abbrev pub row_at : List ℕ → List ℕ → List ℕ → List ℕ → ℕ → Row
row_at requests cranes metres leasts i =
    record { call = i; place = get_or requests i 0; crane = get_or cranes i 0; metres = get_or metres i 0; least = get_or leasts i 0 }

-- paper 2: the day "served from a fresh book"
abbrev pub row_of : Day → Table → ℕ → Row
row_of day t = let s = served_day day t in row_at (day_requests day) s.cranes s.metres s.leasts

-- the day's values: those of each call
unfoldable pub sheet_rows : Day → Table → List Row
sheet_rows day t = up_to (served_day day t).calls (row_of day t)

-- the rows one behind another. Paper 2: "no calls give no bytes. No heading row."
abbrev pub sheet_bytes : Day → Table → List ℕ
sheet_bytes day t = flat_map row_bytes (sheet_rows day t)

-- paper 2: "The sheet is made from a table, starts and calls, tested as for writing a day .. A short buffer gives 11."
abbrev pub sheet_of : Day → Table → List ℕ → Output
sheet_of day t out = output_of (day_refusal day t) (sheet_bytes day t) out

-- paper 2: "Reading a sheet's digits back": row by row
abbrev pub read_sheet : List ℕ → List Row
read_sheet bs = blocks 28 read_row bs

-- what the private function that writes the rows is given: the lists of all calls, values that fit, and the room for them
pub record RowsGiven (requests cranes metres leasts out : List ℕ) : Type 0 where
  pub sent : length requests ≤ length cranes
  pub driven : length requests ≤ length metres
  pub costed : length requests ≤ length leasts
  pub fits : (i : ℕ) → i < length requests → Fits (row_at requests cranes metres leasts i)
  pub room : 28 * length requests ≤ length out
