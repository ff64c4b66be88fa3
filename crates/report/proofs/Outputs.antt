-- What the print and the sheet are, from what reading the file and serving its day gave, and that they fit their array.
-- Assumes nothing.
use Prim.Native.Nat.{ℕ, zero, suc, ◌≤◌, zero-le}
use mathlib.Core.List.{List}
use mathlib.Core.Path.{◌≡◌, sym, ap, ◌∙◌}
use lib.ListN.{length, get_or, take, replicate, length-append, length-replicate}
use lib.Seq.{length-take-le}
use native.Mathlib.Nat.{zero-add}
use native.Mathlib.Omega.{arith}
use Rattle.base.specs.Lists.{splice}
use Rattle.base.specs.Numbers.{unless_refused}
use Rattle.base.proofs.Lists.{drop-replicate}
use Rattle.base.proofs.Numbers.{zeros_told, either_told}
use Rattle.base.specs.Counts.{IsPrefixLen}
use Rattle.road.specs.Table.{Table, most_places, legs_of}
use Rattle.road.proofs.Order.{legs_counted}
use Rattle.dayfile.specs.declared.Day.{Day}
use Rattle.dayfile.specs.Day.{most_calls, DayArrays, day_refusal}
use Rattle.dayfile.specs.File.{Answer, read_file, read_table, Output, output_by}
use Rattle.dayfile.proofs.Limits.{day-tested}
use Rattle.dayfile.proofs.Outputs.{output_kept, output_decided}
use Rattle.dayfile.proofs.RoundTrip.{file_accepted, read_arrays}
use Rattle.dispatch.specs.ServedDay.{DayFigures, served_day}
use Rattle.sheet.specs.Sheet.{sheet_bytes, sheet_of}
use Rattle.sheet.proofs.Promise.{sheet_length}
use Rattle.report.specs.declared.Printed.{Printed}
use Rattle.report.specs.Text.{call_lines, last_line, refused_line, day_text}
use Rattle.report.specs.Put.{Put}
use Rattle.report.specs.Report.{figures_text, file_text, print_of, sheet_text, sheet_print_of, printed}
use Rattle.report.proofs.text.Laws.{put_on, calls_most, day_fits, length-last_line, length-refused_line}

-- ---- a served day

pub served-calls : (day : Day) (t : Table) → (served_day day t).calls ≤ most_calls
unfolding served_day
served-calls day t =
    either_told (λ (s : DayFigures). s.calls ≤ most_calls) (day_refusal day t) _ _ (λ e. (day-tested day t e).counts.calls) (λ n. zero-le)

module _ (s : DayFigures) where
  figures_fit : s.calls ≤ most_calls → length (figures_text s) ≤ 32768
  unfolding figures_text
  figures_fit calls =
      either_told (λ (text : List ℕ). length text ≤ 32768) s.number _ _ (λ e. day_fits _ _ _ s.calls s.driven s.home s.floor calls)
      (λ n. omega (arith, length-refused_line n 0))

  pub day_refused : (n : ℕ) → n ≡ s.number → (s.number ≡ 0 → ⊥) → refused_line n 0 ≡ figures_text s
  unfolding figures_text
  day_refused n e h = rw e (zeros_told s.number _ (λ (k : ℕ). refused_line k 0) h)

  -- the last line behind those of the calls
  pub day_put : {old mid now : List ℕ} {x y : ℕ} → s.number ≡ 0 → s.calls ≤ most_calls → 32768 ≤ length old
      → Put (call_lines s.calls (λ i. get_or s.cranes i 0) (λ i. get_or s.metres i 0) (λ i. get_or s.leasts i 0)) old 0 mid x
      → Put (last_line s.driven s.home s.floor) mid x now y → Put (figures_text s) old 0 now y
  unfolding figures_text day_text
  day_put e calls long p q =
      rw e (put_on p q (omega (arith, q.behind, calls_most _ _ _ _ p, length-last_line s.driven s.home s.floor)))

-- ---- a sheet that was written

-- the bytes, or the line of the refusal
module _ (bytes out : List ℕ) (o : Output) where
  bytes_put : (k : ℕ) → o ≡ output_by k bytes out → o.number ≡ 0 → Put (unless_refused k bytes (λ n. refused_line n 0)) out 0 o.buffer o.length
  bytes_put zero e h = record { buffer = rw e; behind = rw (e, zero-add) }
  bytes_put (suc k) e h = let some : suc k ≡ 0 = rw e at h in absurd (omega arith)

  line_told : (k : ℕ) → o ≡ output_by k bytes out → (o.number ≡ 0 → ⊥) → refused_line o.number 0 ≡ unless_refused k bytes (λ n. refused_line n 0)
  line_told zero e h = absurd (h (rw e))
  line_told (suc k) e h = rw e

module _ (day : Day) (t : Table) (arrays : DayArrays day) (out : List ℕ) (o : Output) (e : o ≡ sheet_of day t out) (long : 32768 ≤ length out) where
  decided : o ≡ output_by (day_refusal day t) (sheet_bytes day t) out
  decided =
      e ∙ output_decided (day_refusal day t) (sheet_bytes day t) out
      (λ accepted. omega (arith, sheet_length day t accepted arrays, (day-tested day t accepted).counts.calls))

  pub sheet_refused : (n : ℕ) → n ≡ o.number → (o.number ≡ 0 → ⊥) → refused_line n 0 ≡ sheet_text day t
  unfolding sheet_text
  sheet_refused n q h = rw q (line_told (sheet_bytes day t) out o (day_refusal day t) decided h)

  -- refused, nothing is written
  pub sheet_kept : (o.number ≡ 0 → ⊥) → o.buffer ≡ out
  sheet_kept h = rw e (ap (λ (q : Output). q.buffer) (output_kept (day_refusal day t) (sheet_bytes day t) out (rw e at h)))

  pub sheet_put : o.number ≡ 0 → Put (sheet_text day t) out 0 o.buffer o.length
  unfolding sheet_text
  sheet_put h = bytes_put (sheet_bytes day t) out o (day_refusal day t) decided h

-- ---- a file that was read

module _ (told : Day → Table → List ℕ) (file : List ℕ) (a : Answer) (e : a ≡ read_file file) where
  pub file_refused : (n : ℕ) → n ≡ a.number → (a.number ≡ 0 → ⊥) → refused_line n a.index ≡ file_text told file
  file_refused n q h = rw (← e, q) (zeros_told a.number _ (λ (k : ℕ). refused_line k a.index) h)

  -- the legs of the places read are the run
  pub file_told : {legs : ℕ} → legs ≡ legs_of a.day.places → a.number ≡ 0 → told a.day (take legs a.table) ≡ file_text told file
  file_told q z =
      let few : a.day.places ≤ most_places = rw e (day-tested _ _ (file_accepted file (rw (← e) z))).counts.places in
      rw (← e, z, q ∙ legs_counted a.day.places few)

-- the day of an accepted file is served: a file's own test leaves nothing for the day's to refuse
pub accepted_served : (file : List ℕ) → (read_file file).number ≡ 0 → (served_day (read_file file).day (read_table file)).number ≡ 0
unfolding served_day
accepted_served file h = rw (file_accepted file h)

-- ---- the array of a print

-- the longest print fits in `TEXT`
pub print_fits : (file : List ℕ) → length (print_of file) ≤ 32768
unfolding print_of
print_fits file =
    either_told (λ (text : List ℕ). length text ≤ 32768) (read_file file).number _ _
    (λ e. figures_fit _ (served-calls (read_file file).day (read_table file)))
    (λ n. omega (arith, length-refused_line n (read_file file).index))

-- and so does the longest sheet
day_sheet_fits : (day : Day) (t : Table) → DayArrays day → length (sheet_text day t) ≤ 32768
unfolding sheet_text
day_sheet_fits day t arrays =
    either_told (λ (text : List ℕ). length text ≤ 32768) (day_refusal day t) _ _
    (λ e. omega (arith, sheet_length day t e arrays, (day-tested day t e).counts.calls)) (λ n. omega (arith, length-refused_line n 0))

pub sheet_fits : (file : List ℕ) → length (sheet_print_of file) ≤ 32768
unfolding sheet_print_of
sheet_fits file =
    either_told (λ (text : List ℕ). length text ≤ 32768) (read_file file).number _ _
    (λ e. day_sheet_fits (read_file file).day (read_table file) (read_arrays file e))
    (λ n. omega (arith, length-refused_line n (read_file file).index))

-- a text written into the front of zeros
pub put_printed : {text old now : List ℕ} {r : ℕ} → old ≡ replicate 32768 0 → Put text old 0 now r
    → ◌≡◌ {A = Printed} (record { length = r; text = now }) (printed text)
unfolding splice printed
put_printed e p = rw (p.buffer, p.behind, e, zero-add, drop-replicate)

-- a text that fits is within its array
pub text_within : (r : Printed) (text : List ℕ) → r ≡ printed text → length text ≤ 32768 → IsPrefixLen r.length r.text
unfolding printed
text_within r text e fits =
    let long : length (printed text).text ≡ 32768 = simp (length-append, length-replicate) (omega arith) in
    let within : r.length ≤ length r.text = omega (arith, ap (λ (p : Printed). p.length) e, ap (λ (p : Printed). length p.text) e) in
    (within, sym (length-take-le r.length r.text within))
