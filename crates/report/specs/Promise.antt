-- What the print of an accepted file promises, from its bytes to its figures: the answer to the hirer who asks how anyone can know
-- that the calls could not have been served on less. And that its sheet has the same figures.
use Rattle.std.specs.Prelude.{ℕ, suc, ◌+◌, ◌*◌, ◌<◌, ◌≤◌, List, [], ◌≡◌, length, get_or, take}
use Rattle.base.specs.Lists.{up_to}
use Rattle.road.specs.Table.{metres_of}
use Rattle.dayfile.specs.declared.Day.{Day}
use Rattle.dayfile.specs.Day.{day_starts, day_requests}
use Rattle.dayfile.specs.File.{read_file, read_table}
use Rattle.workfunction.specs.Lists.{sum_below}
use Rattle.workfunction.specs.Movement.{LeastTo, floor}
use Rattle.workfunction.specs.Position.{distance}
use Rattle.workfunction.specs.Serving.{Served, served, stands_after}
use Rattle.report.specs.Text.{day_text}
use Rattle.sheet.specs.Sheet.{read_sheet}
use Rattle.report.specs.Report.{print_of, sheet_print_of}

module _ (file : List ℕ) where
  -- the day that the file holds, and "d(u,w) the metres from u to w"
  abbrev pub day : Day
  day = (read_file file).day

  abbrev pub d : ℕ → ℕ → ℕ
  d = metres_of (read_table file)

  abbrev pub starts : List ℕ
  starts = day_starts day

  abbrev pub calls : List ℕ
  calls = day_requests day

  -- where the cranes stand once the first i calls are served
  abbrev pub stands_then : ℕ → List ℕ
  stands_then i = stands_after d day.places starts [] starts (take i calls)

  -- call i: the crane that the Work Function Algorithm chooses at the stands then, its drive, and the least cost after it
  abbrev pub told : ℕ → Served
  told i = served d day.places starts (take i calls) (stands_then i) (get_or calls i 0)

  abbrev pub driven : ℕ
  driven = sum_below day.calls (λ i. (told i).metres)

  -- paper 8: "the way home: the distance of the last stands from the starts"
  abbrev pub homeward : ℕ
  homeward = distance d (stands_after d day.places starts [] starts calls) starts

  abbrev pub lowest : ℕ
  lowest = floor d day.places starts calls

  pub record PrintProved : Type 0 where
    -- the print is a line for each call and the last line, with these figures
    pub lines : print_of file ≡ day_text day.calls (λ i. (told i).crane) (λ i. (told i).metres) (λ i. (told i).least) driven homeward lowest
    -- the least of call i is the least cost of all movements that serve the calls up to it and end at the stands then
    pub least : (i : ℕ) → i < day.calls → LeastTo d day.places starts (take (suc i) calls) (stands_then (suc i)) (told i).least
    -- the floor is the least cost of all movements that serve the calls and end at the starts
    pub floored : LeastTo d day.places starts calls starts lowest
    -- the cranes drive and go home on no less
    pub above : lowest ≤ driven + homeward

  -- the same figures on the sheet
  pub record SheetProved : Type 0 where
    -- a row of 28 bytes for each call
    pub long : length (sheet_print_of file) ≡ 28 * day.calls
    -- what is read of it is the number of each call, its place, and the figures told above
    pub rows : read_sheet (sheet_print_of file)
        ≡ up_to day.calls (λ i. record { call = i; place = get_or calls i 0; crane = (told i).crane; metres = (told i).metres; least = (told i).least })
