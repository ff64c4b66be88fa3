-- What the print and the sheet of an accepted file promise holds, for every file. Assumes nothing.
use Prim.Native.Nat.{ℕ, zero, suc, ◌<◌, suc-le-suc}
use mathlib.Core.List.{List, [], ◌++◌}
use mathlib.Core.Path.{◌≡◌, refl, ap, ap₂, ◌∙◌}
use lib.ListN.{get_or}
use native.Mathlib.Nat.{le_of_lt, le_refl}
use Rattle.base.specs.Lists.{padded}
use Rattle.base.proofs.Lists.{up_to-same, get_or-padded}
use Rattle.dayfile.specs.Day.{most_calls, DayArrays, day_refusal}
use Rattle.dayfile.specs.File.{read_file, read_table}
use Rattle.dayfile.proofs.Limits.{day-tested, length_requests}
use Rattle.dayfile.proofs.RoundTrip.{file_accepted, read_arrays}
use Rattle.workfunction.specs.Serving.{Served, serve}
use Rattle.workfunction.proofs.Serving.{serve-at}
use Rattle.workfunction.proofs.Sums.{sum_same}
use Rattle.dispatch.specs.Quote.{unserved}
use Rattle.dispatch.specs.ServedDay.{nth, home_of, served_day}
use Rattle.dispatch.proofs.Promise.{day_least, day-floor, day-floor-driven}
use Rattle.sheet.specs.Sheet.{row_of, sheet_bytes}
use Rattle.sheet.proofs.Promise.{sheet_rows_lem, sheet_length, sheet_back}
use Rattle.report.specs.Promise.{day, d, starts, calls, told, driven, homeward, lowest, PrintProved, SheetProved}
use Rattle.report.specs.Report.{figures_text, print_of, sheet_text, sheet_print_of}
use Rattle.report.specs.Text.{call_lines, last_line, day_text}

-- lines of figures that agree for each call
call_lines-same : (m : ℕ) {f f' g g' h h' : ℕ → ℕ} → ((i : ℕ) → i < m → f i ≡ f' i) → ((i : ℕ) → i < m → g i ≡ g' i)
    → ((i : ℕ) → i < m → h i ≡ h' i) → call_lines m f g h ≡ call_lines m f' g' h'
unfolding call_lines
call_lines-same zero a b c = refl
call_lines-same (suc m) a b c =
    rw (
      call_lines-same m (λ i l. a i (le_of_lt (suc-le-suc l))) (λ i l. b i (le_of_lt (suc-le-suc l))) (λ i l. c i (le_of_lt (suc-le-suc l))),
      a m (le_refl (suc m)),
      b m (le_refl (suc m)),
      c m (le_refl (suc m)),
    )

module _ (file : List ℕ) (accepted : (read_file file).number ≡ 0) where
  none : day_refusal (day file) (read_table file) ≡ 0
  none = file_accepted file accepted

  arrays : DayArrays (day file)
  arrays = read_arrays file accepted

  -- the calls served in turn
  all : List Served
  all = serve (d file) (day file).places (starts file) [] (starts file) (calls file)

  module _ (i : ℕ) (called : i < (day file).calls) where
    told_is : nth all i ≡ told file i
    unfolding all
    told_is =
        let long = length_requests (day file) arrays (day-tested (day file) (read_table file) none).counts.calls in
        serve-at (d file) (day file).places (starts file) unserved [] (starts file) (calls file) i (rw long called)

    -- a figure of call i, in its array
    figure_is : (figure : Served → ℕ) → get_or (padded most_calls (day file).calls (λ j. figure (nth all j)) 0) i 0 ≡ figure (told file i)
    figure_is figure = get_or-padded most_calls (day file).calls _ 0 0 i called ∙ ap figure told_is

  lines_are : print_of file
      ≡ day_text (day file).calls (λ i. (told file i).crane) (λ i. (told file i).metres) (λ i. (told file i).least) (driven file)
      (homeward file) (lowest file)
  unfolding print_of figures_text served_day home_of day_text all
  lines_are =
      rw (accepted, none)
      (ap₂ (λ lines sum. lines ++ last_line sum (homeward file) (lowest file))
      (call_lines-same (day file).calls (λ i l. figure_is i l (λ s. s.crane)) (λ i l. figure_is i l (λ s. s.metres)) (λ i l. figure_is i l (λ s. s.least)))
      (sum_same (day file).calls _ _ (λ i l. ap (λ (s : Served). s.metres) (told_is i l))))

  least_told : (i : ℕ) → i < (day file).calls → get_or (served_day (day file) (read_table file)).leasts i 0 ≡ (told file i).least
  unfolding served_day all
  least_told i called = rw none (figure_is i called (λ s. s.least))

  floor_told_lem : (served_day (day file) (read_table file)).floor ≡ lowest file
  unfolding served_day
  floor_told_lem = rw none

  home_told : (served_day (day file) (read_table file)).home ≡ homeward file
  unfolding served_day home_of
  home_told = rw none

  driven-told : (served_day (day file) (read_table file)).driven ≡ driven file
  unfolding served_day all
  driven-told = rw none (sum_same (day file).calls _ _ (λ i l. ap (λ (s : Served). s.metres) (told_is i l)))

  -- for every accepted file
  pub print_proved : PrintProved file
  print_proved = record {
    lines = lines_are;
    least = λ i called. rw (least_told i called) at (day_least (day file) (read_table file) arrays none i called);
    floored = rw floor_told_lem at (day-floor (day file) (read_table file) arrays none);
    above = rw (floor_told_lem, driven-told, home_told) at (day-floor-driven (day file) (read_table file) arrays none);
  }

  sheet_is : sheet_print_of file ≡ sheet_bytes (day file) (read_table file)
  unfolding sheet_print_of sheet_text
  sheet_is = rw (accepted, none)

  row_is : (i : ℕ) → i < (day file).calls → row_of (day file) (read_table file) i
      ≡ record { call = i; place = get_or (calls file) i 0; crane = (told file i).crane; metres = (told file i).metres; least = (told file i).least }
  unfolding served_day all
  row_is i called =
      let figure = figure_is i called in
      rw none (λ j. record { call = i; place = get_or (calls file) i 0; crane = figure (λ s. s.crane) j; metres = figure (λ s. s.metres) j; least = figure (λ s. s.least) j })

  -- and of its sheet
  pub sheet_proved : SheetProved file
  sheet_proved = record {
    long = rw sheet_is (sheet_length (day file) (read_table file) none arrays);
    rows = rw sheet_is (sheet_back (day file) (read_table file) none arrays ∙ sheet_rows_lem (day file) (read_table file) none ∙ up_to-same (day file).calls _ _ row_is);
  }
