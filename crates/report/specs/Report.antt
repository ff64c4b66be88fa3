-- What the programs print, for the bytes of any file: the print of the day, and its sheet.
use Rattle.std.specs.Prelude.{ℕ, ◌-◌, List, ◌++◌, length, get_or, replicate}
use Rattle.base.specs.Numbers.{unless_refused}
use Rattle.road.specs.Table.{Table}
use Rattle.dayfile.specs.declared.Day.{Day}
use Rattle.dayfile.specs.Day.{day_refusal}
use Rattle.dayfile.specs.File.{read_file, read_table}
use Rattle.dispatch.specs.ServedDay.{DayFigures, served_day}
use Rattle.sheet.specs.Sheet.{sheet_bytes}
use Rattle.report.specs.declared.Printed.{Printed}
use Rattle.report.specs.Text.{refused_line, day_text}

-- the text of a served day. Of a refused day the line has record 0; the day of an accepted file is never refused (`accepted_served`)
unfoldable pub figures_text : DayFigures → List ℕ
figures_text s =
    unless_refused s.number
    (day_text s.calls (λ i. get_or s.cranes i 0) (λ i. get_or s.metres i 0) (λ i. get_or s.leasts i 0) s.driven s.home
    s.floor)
    (λ n. refused_line n 0)

-- the lines of a day, as text
abbrev pub lines_text : Day → Table → List ℕ
lines_text day t = figures_text (served_day day t)

-- the sheet of a day, as text. Of a refused day the line has record 0 too
unfoldable pub sheet_text : Day → Table → List ℕ
sheet_text day t = unless_refused (day_refusal day t) (sheet_bytes day t) (λ n. refused_line n 0)

-- "A refusal writes one line, `refused N record I`": else what is told of the day
abbrev pub file_text : (Day → Table → List ℕ) → List ℕ → List ℕ
file_text told file =
    unless_refused (read_file file).number (told (read_file file).day (read_table file)) (λ n. refused_line n (read_file file).index)

-- "It reads a day file .., serves the calls from a fresh book, and writes lines"
unfoldable pub print_of : List ℕ → List ℕ
print_of file = file_text lines_text file

-- the same for the wall: the sheet, or the line of a refusal
unfoldable pub sheet_print_of : List ℕ → List ℕ
sheet_print_of file = file_text sheet_text file

-- a text in an array of 32,768 bytes, with 0 behind it
unfoldable pub printed : List ℕ → Printed
printed text = record { length = length text; text = text ++ replicate (32768 - length text) 0 }
