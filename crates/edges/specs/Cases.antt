-- Document 01's cases marked P and those of the papers, as one table: what is given, and what is said of it.
use Rattle.std.specs.Prelude.{ℕ, ◌-◌, Bool, true, false, ◌&&◌, eqb, ℤ, pos, neg_ℤ, length, replicate}
use mathlib.Core.List.{List, [], ◌∷◌, ◌++◌, flat_map}
use Rattle.std.specs.Int.Signed.{le_z}
use Rattle.base.specs.Lists.{up_to}
use Rattle.road.specs.Table.{Table, most_legs, metres_of, table_refusal}
use Rattle.dayfile.specs.Day.{most_cranes, most_calls, day_refusal}
use Rattle.dayfile.specs.declared.Day.{Day}
use Rattle.dayfile.specs.File.{read_file, read_table, Output}
use Rattle.pairs.specs.Lookup.{pair_at_of, index_of}
use Rattle.workfunction.specs.Choice.{move_sum}
use Rattle.book.specs.Book.{most_stops, starts_of, stands_of, requests_of, fresh_of}
use Rattle.book.specs.declared.Book.{Book}
use Rattle.dispatch.specs.Commit.{Committed, commit_of}
use Rattle.dispatch.specs.Costs.{TwoCosts, costs_of}
use Rattle.dispatch.specs.NetCosts.{NetList, nets_of}
use Rattle.dispatch.specs.Quote.{Quoted, quote_of}
use Rattle.sheet.specs.declared.row.Row.{Row}
use Rattle.sheet.specs.Row.{row_bytes}
use Rattle.sheet.specs.Sheet.{sheet_of, read_sheet}
use Rattle.report.specs.Report.{print_of, sheet_print_of}

-- a road table: its run, and the number of places stated for it
pub record Roads : Type 0 where
  pub places : ℕ
  pub run : Table

pub data Case : Type 0 where
  -- a road table: its refusal, 0 where it is accepted
  table : Roads → ℕ → Case
  -- a road table, starts and calls: the refusal of their day, 0 where it is accepted
  day : Roads → List ℕ → List ℕ → ℕ → Case
  -- the bytes of a day file: its refusal, 0 where it is accepted, and the index that goes with it
  file : List ℕ → ℕ → ℕ → Case
  -- the bytes of a day file: the run that is read, and 0 past it
  legs : List ℕ → List ℕ → Case
  -- the fresh book of a road table and of starts: its least and its floor; its metres are 0
  fresh : Roads → List ℕ → ℕ → ℕ → Case
  -- a road table, a book and the place of a call: the sum of each crane's move
  sums : Roads → Book → ℕ → List ℕ → Case
  -- the number of its net costs, and all of their entries
  netted : Roads → Book → ℕ → ℕ → List ℤ → Case
  -- the number, the crane, the metres and the least that are quoted
  quoted : Roads → Book → ℕ → ℕ → ℕ → ℕ → ℕ → Case
  -- a crane beside them: the number and the least of its commit, and of the book handed back the stands, the calls, and the metres, 0 past
  -- those listed
  committed : Roads → Book → ℕ → ℕ → ℕ → ℕ → List ℕ → List ℕ → List ℕ → Case
  -- the bytes of a day file: all bytes of the print
  print : List ℕ → List ℕ → Case
  -- the bytes of a day file: all bytes of its sheet
  posted : List ℕ → List ℕ → Case
  -- a road table, starts and calls, and a buffer: the number, the length, and the whole buffer after the sheet is written
  sheet : Roads → List ℕ → List ℕ → List ℕ → ℕ → ℕ → List ℕ → Case
  -- call, place, crane, metres and least: all bytes of the row
  row : ℕ → ℕ → ℕ → ℕ → ℕ → List ℕ → Case
  -- all bytes of a sheet: the five values of each row
  values : List ℕ → List ℕ → Case
  -- the index of a leg: the number, and its two places
  places_at : ℕ → ℕ → ℕ → ℕ → Case
  -- two places: the number, and the index of their leg
  index_at : ℕ → ℕ → ℕ → ℕ → Case

-- so many places and these numbers
abbrev roads : ℕ → List ℕ → Roads
roads n l = record { places = n; run = l }

-- one place, which has no legs
abbrev one : Roads
one = roads 1 []

-- two places, by the leg (0,1)
abbrev pair : ℕ → Roads
pair a = roads 2 (a ∷ [])

-- three places, by the legs (0,1), (0,2), (1,2)
abbrev three : ℕ → ℕ → ℕ → Roads
three a b c = roads 3 (a ∷ b ∷ c ∷ [])

-- three places by two numbers, and by four
abbrev short : Roads
short = roads 3 (10 ∷ 20 ∷ [])

abbrev long : Roads
long = roads 3 (10 ∷ 20 ∷ 15 ∷ 7 ∷ [])

-- the record of a leg, its metres given by their four bytes; of a crane; and of a call
abbrev leg : ℕ → ℕ → ℕ → ℕ → ℕ → ℕ → List ℕ
leg u v a b c d = 1 ∷ 0 ∷ u ∷ 0 ∷ v ∷ 0 ∷ 0 ∷ 0 ∷ a ∷ b ∷ c ∷ d ∷ []

abbrev crane : ℕ → List ℕ
crane p = 2 ∷ 0 ∷ p ∷ 0 ∷ 0 ∷ 0 ∷ 0 ∷ 0 ∷ 0 ∷ 0 ∷ 0 ∷ 0 ∷ []

abbrev call : ℕ → List ℕ
call p = 3 ∷ 0 ∷ p ∷ 0 ∷ 0 ∷ 0 ∷ 0 ∷ 0 ∷ 0 ∷ 0 ∷ 0 ∷ 0 ∷ []

-- case A: "legs 10, 20, 15 for (0,1), (0,2), (1,2); cranes at 0 and 2; calls 1, 0, 1 (96 bytes)"
abbrev file_a : List ℕ
file_a = leg 0 1 10 0 0 0 ++ leg 0 2 20 0 0 0 ++ leg 1 2 15 0 0 0 ++ crane 0 ++ crane 2 ++ call 1 ++ call 0 ++ call 1

-- "All of the output"
abbrev print_a : List ℕ
print_a =
    -- call 0 crane 0 metres 10 least 10
    99 ∷ 97 ∷ 108 ∷ 108 ∷ 32 ∷ 48 ∷ 32 ∷ 99 ∷ 114 ∷ 97 ∷ 110 ∷ 101 ∷ 32 ∷ 48 ∷ 32 ∷ 109 ∷ 101 ∷ 116 ∷ 114 ∷ 101 ∷ 115 ∷ 32 ∷ 49 ∷ 48 ∷
    32 ∷ 108 ∷ 101 ∷ 97 ∷ 115 ∷ 116 ∷ 32 ∷ 49 ∷ 48 ∷ 10 ∷
    -- call 1 crane 0 metres 10 least 20
    99 ∷ 97 ∷ 108 ∷ 108 ∷ 32 ∷ 49 ∷ 32 ∷ 99 ∷ 114 ∷ 97 ∷ 110 ∷ 101 ∷ 32 ∷ 48 ∷ 32 ∷ 109 ∷ 101 ∷ 116 ∷ 114 ∷ 101 ∷ 115 ∷ 32 ∷ 49 ∷ 48 ∷
    32 ∷ 108 ∷ 101 ∷ 97 ∷ 115 ∷ 116 ∷ 32 ∷ 50 ∷ 48 ∷ 10 ∷
    -- call 2 crane 1 metres 15 least 15
    99 ∷ 97 ∷ 108 ∷ 108 ∷ 32 ∷ 50 ∷ 32 ∷ 99 ∷ 114 ∷ 97 ∷ 110 ∷ 101 ∷ 32 ∷ 49 ∷ 32 ∷ 109 ∷ 101 ∷ 116 ∷ 114 ∷ 101 ∷ 115 ∷ 32 ∷ 49 ∷ 53 ∷
    32 ∷ 108 ∷ 101 ∷ 97 ∷ 115 ∷ 116 ∷ 32 ∷ 49 ∷ 53 ∷ 10 ∷
    -- paper 8: driven 35 home 15 floor 30
    100 ∷ 114 ∷ 105 ∷ 118 ∷ 101 ∷ 110 ∷ 32 ∷ 51 ∷ 53 ∷ 32 ∷ 104 ∷ 111 ∷ 109 ∷ 101 ∷ 32 ∷ 49 ∷ 53 ∷
    32 ∷ 102 ∷ 108 ∷ 111 ∷ 111 ∷ 114 ∷ 32 ∷ 51 ∷ 48 ∷ 10 ∷ []

-- paper 2: case A's sheet
abbrev sheet_a : List ℕ
sheet_a =
    --   0  1  0      10        10
    32 ∷ 32 ∷ 48 ∷ 32 ∷ 32 ∷ 49 ∷ 32 ∷ 32 ∷ 48 ∷ 32 ∷ 32 ∷ 32 ∷ 32 ∷ 32 ∷ 32 ∷ 49 ∷ 48 ∷ 32 ∷ 32 ∷ 32 ∷ 32 ∷ 32 ∷ 32 ∷ 32 ∷ 32 ∷ 49 ∷ 48 ∷ 10 ∷
    --   1  0  0      10        20
    32 ∷ 32 ∷ 49 ∷ 32 ∷ 32 ∷ 48 ∷ 32 ∷ 32 ∷ 48 ∷ 32 ∷ 32 ∷ 32 ∷ 32 ∷ 32 ∷ 32 ∷ 49 ∷ 48 ∷ 32 ∷ 32 ∷ 32 ∷ 32 ∷ 32 ∷ 32 ∷ 32 ∷ 32 ∷ 50 ∷ 48 ∷ 10 ∷
    --   2  1  1      15        15
    32 ∷ 32 ∷ 50 ∷ 32 ∷ 32 ∷ 49 ∷ 32 ∷ 32 ∷ 49 ∷ 32 ∷ 32 ∷ 32 ∷ 32 ∷ 32 ∷ 32 ∷ 49 ∷ 53 ∷ 32 ∷ 32 ∷ 32 ∷ 32 ∷ 32 ∷ 32 ∷ 32 ∷ 32 ∷ 49 ∷ 53 ∷ 10 ∷ []

-- the array of n entries that begins with l, and z past it
abbrev array : {A : Type 0} → ℕ → A → List A → List A
array n z l = l ++ replicate (n - length l) z

-- the day of a road table, starts and calls
abbrev day_of : Roads → List ℕ → List ℕ → Day
day_of t starts calls =
    record { places = t.places; cranes = length starts; calls = length calls; starts = array most_cranes 0 starts; requests = array most_calls 0 calls }

-- the book that is opened for a day without calls
abbrev opened : Roads → List ℕ → Book
opened t starts = (fresh_of (day_of t starts []) t.run).book

-- case A's book before its call 2: crane 0 went to the calls 1 and 0, and stands at its start again
abbrev book_a : Book
book_a =
    record {
      cranes = 2;
      calls = 2;
      starts = array most_cranes 0 (0 ∷ 2 ∷ []);
      stands = array most_cranes 0 (0 ∷ 2 ∷ []);
      requests = array most_calls 0 (1 ∷ 0 ∷ []);
      plan = array most_stops 0 (2 ∷ 1 ∷ 3 ∷ 0 ∷ []);
      weights = array most_stops (pos 0) (neg_ℤ (pos 10) ∷ neg_ℤ (pos 5) ∷ pos 0 ∷ neg_ℤ (pos 10) ∷ []);
      driven = array most_cranes 0 (20 ∷ 0 ∷ []);
    }

-- a book with other metres
abbrev with_driven : Book → List ℕ → Book
with_driven book driven =
    record {
      cranes = book.cranes;
      calls = book.calls;
      starts = book.starts;
      stands = book.stands;
      requests = book.requests;
      plan = book.plan;
      weights = book.weights;
      driven = array most_cranes 0 driven;
    }

unfoldable pub cases : List Case
cases =
    -- "Case A, marked P"
    print file_a print_a ∷
    -- paper 2: its sheet, from the file; into 83, 84 and 85 bytes; by 8 before 11; and read back
    posted file_a sheet_a ∷
    sheet (three 10 20 15) (0 ∷ 2 ∷ []) (1 ∷ 0 ∷ 1 ∷ []) (replicate 83 7) 11 0 (replicate 83 7) ∷
    sheet (three 10 20 15) (0 ∷ 2 ∷ []) (1 ∷ 0 ∷ 1 ∷ []) (replicate 84 7) 0 84 sheet_a ∷
    sheet (three 10 20 15) (0 ∷ 2 ∷ []) (1 ∷ 0 ∷ 1 ∷ []) (replicate 85 7) 0 84 (sheet_a ++ (7 ∷ [])) ∷
    sheet (three 10 26 15) (0 ∷ 2 ∷ []) (1 ∷ 0 ∷ 1 ∷ []) (replicate 83 7) 8 0 (replicate 83 7) ∷
    values sheet_a (0 ∷ 1 ∷ 0 ∷ 10 ∷ 10 ∷ 1 ∷ 0 ∷ 0 ∷ 10 ∷ 20 ∷ 2 ∷ 1 ∷ 1 ∷ 15 ∷ 15 ∷ []) ∷
    -- paper 2: "no calls give no bytes", and every buffer is long enough
    sheet (three 10 20 15) (0 ∷ 2 ∷ []) [] [] 0 0 [] ∷
    sheet (three 10 20 15) (0 ∷ 2 ∷ []) [] (7 ∷ 7 ∷ []) 0 0 (7 ∷ 7 ∷ []) ∷
    -- paper 2: the widest values, and the shortest
    row 255 63 15 1000000 256000000
    (50 ∷ 53 ∷ 53 ∷ 32 ∷ 54 ∷ 51 ∷ 32 ∷ 49 ∷ 53 ∷ 32 ∷ 49 ∷ 48 ∷ 48 ∷ 48 ∷ 48 ∷ 48 ∷ 48 ∷ 32 ∷ 50 ∷ 53 ∷ 54 ∷ 48 ∷ 48 ∷ 48 ∷ 48 ∷ 48 ∷ 48 ∷ 10 ∷ []) ∷
    row 0 0 0 0 0
    (32 ∷ 32 ∷ 48 ∷ 32 ∷ 32 ∷ 48 ∷ 32 ∷ 32 ∷ 48 ∷ 32 ∷ 32 ∷ 32 ∷ 32 ∷ 32 ∷ 32 ∷ 32 ∷ 48 ∷ 32 ∷ 32 ∷ 32 ∷ 32 ∷ 32 ∷ 32 ∷ 32 ∷ 32 ∷ 32 ∷ 48 ∷ 10 ∷ []) ∷
    -- "one place, one crane, one call at 0: crane 0, metres 0, least 0"
    sums one (opened one (0 ∷ [])) 0 (0 ∷ []) ∷
    quoted one (opened one (0 ∷ [])) 0 0 0 0 0 ∷
    -- "legs 10, 20, 10, cranes at 0 and 2, call 1: both give 20; crane 0"
    sums (three 10 20 10) (opened (three 10 20 10) (0 ∷ 2 ∷ [])) 1 (20 ∷ 20 ∷ []) ∷
    quoted (three 10 20 10) (opened (three 10 20 10) (0 ∷ 2 ∷ [])) 1 0 0 10 10 ∷
    -- "two cranes at 0, call at 1 by a leg of 7: crane 0, metres 7"
    sums (pair 7) (opened (pair 7) (0 ∷ 0 ∷ [])) 1 (14 ∷ 14 ∷ []) ∷
    quoted (pair 7) (opened (pair 7) (0 ∷ 0 ∷ [])) 1 0 0 7 7 ∷
    -- paper 1: places are told apart by number, so of equal sums and equal drives of 0 the lower crane goes, though the other
    -- stands at the very place; with crane 0 elsewhere it is crane 1
    sums (three 0 5 5) (opened (three 0 5 5) (1 ∷ 0 ∷ [])) 0 (0 ∷ 0 ∷ []) ∷
    quoted (three 0 5 5) (opened (three 0 5 5) (1 ∷ 0 ∷ [])) 0 0 0 0 0 ∷
    sums (three 0 5 5) (opened (three 0 5 5) (2 ∷ 1 ∷ [])) 0 (10 ∷ 0 ∷ []) ∷
    quoted (three 0 5 5) (opened (three 0 5 5) (2 ∷ 1 ∷ [])) 0 0 1 0 0 ∷
    -- paper 3: case A before its call 2 is quoted for crane 1 by 15 metres, a least of 15; each crane may be committed, there are two
    -- of them, and the place is tested before the crane; a place past the table is not quoted
    sums (three 10 20 15) book_a 1 (40 ∷ 30 ∷ []) ∷
    quoted (three 10 20 15) book_a 1 0 1 15 15 ∷
    quoted (three 10 20 15) book_a 3 5 0 0 0 ∷
    -- paper 4: "At call 2 of case A it is 10, then −5", and 0 past the two cranes; refused as the quote is, and 0 throughout
    netted (three 10 20 15) book_a 1 0 (array most_cranes (pos 0) (pos 10 ∷ neg_ℤ (pos 5) ∷ [])) ∷
    netted (three 10 20 15) book_a 3 5 (replicate most_cranes (pos 0)) ∷
    -- paper 5: "a commit adds its drive to the crane committed"
    committed (three 10 20 15) book_a 1 0 0 30 (1 ∷ 2 ∷ []) (1 ∷ 0 ∷ 1 ∷ []) (30 ∷ 0 ∷ []) ∷
    committed (three 10 20 15) book_a 1 1 0 15 (0 ∷ 1 ∷ []) (1 ∷ 0 ∷ 1 ∷ []) (20 ∷ 15 ∷ []) ∷
    committed (three 10 20 15) book_a 1 2 12 0 (0 ∷ 2 ∷ []) (1 ∷ 0 ∷ []) (20 ∷ 0 ∷ []) ∷
    committed (three 10 20 15) book_a 3 2 5 0 (0 ∷ 2 ∷ []) (1 ∷ 0 ∷ []) (20 ∷ 0 ∷ []) ∷
    -- paper 5: "13 when a crane's metres exceed 1,000,000 times the number of calls", before the asked place and the crane; past the
    -- cranes they are ignored, handed back as given by a refused commit, and 0 after one that is accepted
    quoted one (with_driven (opened one (0 ∷ [])) (1 ∷ [])) 0 13 0 0 0 ∷
    quoted (three 10 20 15) (with_driven book_a (20 ∷ 2000000 ∷ [])) 1 0 1 15 15 ∷
    quoted (three 10 20 15) (with_driven book_a (20 ∷ 2000001 ∷ [])) 3 13 0 0 0 ∷
    committed (three 10 20 15) (with_driven book_a (20 ∷ 2000001 ∷ [])) 3 2 13 0 (0 ∷ 2 ∷ []) (1 ∷ 0 ∷ []) (20 ∷ 2000001 ∷ []) ∷
    committed (three 10 20 15) (with_driven book_a (20 ∷ 0 ∷ 2000001 ∷ [])) 1 2 12 0 (0 ∷ 2 ∷ []) (1 ∷ 0 ∷ []) (20 ∷ 0 ∷ 2000001 ∷ []) ∷
    committed (three 10 20 15) (with_driven book_a (20 ∷ 0 ∷ 2000001 ∷ [])) 1 1 0 15 (0 ∷ 1 ∷ []) (1 ∷ 0 ∷ 1 ∷ []) (20 ∷ 15 ∷ []) ∷
    -- "a fresh book: least 0, floor 0": those above, and case A's
    fresh one (0 ∷ []) 0 0 ∷
    fresh (three 10 20 10) (0 ∷ 2 ∷ []) 0 0 ∷
    fresh (pair 7) (0 ∷ 0 ∷ []) 0 0 ∷
    fresh (three 0 5 5) (1 ∷ 0 ∷ []) 0 0 ∷
    fresh (three 0 5 5) (2 ∷ 1 ∷ []) 0 0 ∷
    fresh (three 10 20 15) (0 ∷ 2 ∷ []) 0 0 ∷
    -- "legs 10, 25, 15 accepted. P: 10, 26, 15 give 8." The rule holds over a leg of 0 too (paper 1).
    table (three 10 25 15) 0 ∷
    table (three 10 26 15) 8 ∷
    table (three 0 5 5) 0 ∷
    table (three 0 5 6) 8 ∷
    -- "metres 1,000,000 accepted. P: 1,000,001 give 4." Paper 1: "The edge case with 0 metres is now accepted."
    table (pair 1000000) 0 ∷
    table (pair 1000001) 4 ∷
    table (pair 0) 0 ∷
    -- paper 6: "one run of numbers, the legs in the day file's order, without the self-legs"; of case A's file it is the three legs, and
    -- "0 past its legs"; of a refused file there is none
    table one 0 ∷
    legs file_a (10 ∷ 20 ∷ 15 ∷ []) ∷
    legs (crane 0) [] ∷
    legs (leg 0 1 10 0 0 0) [] ∷
    -- paper 6: "A run longer or shorter than the legs of its stated number of places gives 3", before 6, 4 and 8, and so do "places not 1 to 64"
    -- with a run as long as their legs; of a day, a sheet, a quote and a commit too, and then the book is handed back as it was
    table short 3 ∷
    table long 3 ∷
    table (roads 1 (0 ∷ [])) 3 ∷
    table (roads 0 []) 3 ∷
    table (roads 65 (replicate 2080 0)) 3 ∷
    table (roads 3 (10 ∷ 1000001 ∷ [])) 3 ∷
    table (roads 3 (10 ∷ 26 ∷ 15 ∷ 7 ∷ [])) 3 ∷
    day (three 10 20 15) (0 ∷ 2 ∷ []) (1 ∷ 0 ∷ 1 ∷ []) 0 ∷
    day (three 10 20 15) [] [] 6 ∷
    day short [] [] 3 ∷
    day long (replicate 17 0) [] 3 ∷
    sheet short (0 ∷ 2 ∷ []) (1 ∷ 0 ∷ 1 ∷ []) (replicate 84 7) 3 0 (replicate 84 7) ∷
    quoted short book_a 1 3 0 0 0 ∷
    quoted long book_a 1 3 0 0 0 ∷
    committed short book_a 1 1 3 0 (0 ∷ 2 ∷ []) (1 ∷ 0 ∷ []) (20 ∷ 0 ∷ []) ∷
    -- paper 7: "Which pair is leg 1,500?"; "An index above 2,015, or a pair that isn't a leg .. gives 5", and zeros
    places_at 0 0 0 1 ∷
    places_at 1500 0 15 55 ∷
    places_at 2015 0 62 63 ∷
    places_at 2016 5 0 0 ∷
    index_at 0 1 0 0 ∷
    index_at 15 55 0 1500 ∷
    index_at 62 63 0 2015 ∷
    index_at 3 3 5 0 ∷
    index_at 4 3 5 0 ∷
    index_at 0 64 5 0 ∷
    index_at 0 65535 5 0 ∷
    -- legs and triangles as files: 1,000,000 is 64 + 66 · 256 + 15 · 65,536
    file (leg 0 1 10 0 0 0 ++ leg 0 2 25 0 0 0 ++ leg 1 2 15 0 0 0 ++ crane 0) 0 0 ∷
    file (leg 0 1 10 0 0 0 ++ leg 0 2 26 0 0 0 ++ leg 1 2 15 0 0 0 ++ crane 0) 8 0 ∷
    file (leg 0 1 0 0 0 0 ++ leg 0 2 5 0 0 0 ++ leg 1 2 5 0 0 0 ++ crane 0) 0 0 ∷
    file (leg 0 1 0 0 0 0 ++ leg 0 2 5 0 0 0 ++ leg 1 2 6 0 0 0 ++ crane 0) 8 0 ∷
    file (leg 0 1 64 66 15 0 ++ crane 0) 0 0 ∷
    file (leg 0 1 65 66 15 0 ++ crane 0) 4 0 ∷
    file (leg 0 1 0 0 0 0 ++ crane 0) 0 0 ∷
    -- "an empty file gives 6, record 0"
    file [] 6 0 ∷
    []

-- w(C(s)) + d(s,r) of each crane s
abbrev move_sums : Roads → Book → ℕ → List ℕ
move_sums t book r = up_to book.cranes (move_sum (metres_of t.run) t.places (starts_of book) (requests_of book) (stands_of book) r)

-- two lists have the same entries, by a test of two
unfoldable pub same_by : {A : Type 0} → (A → A → Bool) → List A → List A → Bool
same_by eq [] [] = true
same_by eq [] (b ∷ m) = false
same_by eq (a ∷ l) [] = false
same_by eq (a ∷ l) (b ∷ m) = eq a b && same_by eq l m

abbrev same : List ℕ → List ℕ → Bool
same = same_by eqb

abbrev same_signed : List ℤ → List ℤ → Bool
same_signed = same_by (λ a b. le_z a b && le_z b a)

-- these costs, of an accepted book
abbrev costs : ℕ → ℕ → TwoCosts → Bool
costs w f c = eqb c.number 0 && eqb c.least w && eqb c.floor f

-- this number with these net costs
abbrev nets : ℕ → List ℤ → NetList → Bool
nets n l c = eqb c.number n && same_signed c.nets l

-- this number with these figures
abbrev figures : ℕ → ℕ → ℕ → ℕ → Quoted → Bool
figures n s m w q = eqb q.number n && eqb q.figures.crane s && eqb q.figures.metres m && eqb q.figures.least w

-- this number with this least, and a book with these stands, calls and metres
abbrev handed : ℕ → ℕ → List ℕ → List ℕ → List ℕ → Committed → Bool
handed n w stands calls driven c =
    eqb c.number n && eqb c.least w && same (stands_of c.book) stands && same (requests_of c.book) calls
    && same c.book.driven (array most_cranes 0 driven)

-- what a buffer holds after, with the number and the length
abbrev output : ℕ → ℕ → List ℕ → Output → Bool
output n k out o = eqb o.number n && eqb o.length k && same o.buffer out

-- the values of a row, one behind another
abbrev five : Row → List ℕ
five r = r.call ∷ r.place ∷ r.crane ∷ r.metres ∷ r.least ∷ []

-- What is told of a commit does not depend on the plan and the weights of the book after it, which are left out.
unfoldable pub agrees : Case → Bool
agrees (table t n) = eqb (table_refusal t.places t.run) n
agrees (day t starts calls n) = eqb (day_refusal (day_of t starts calls) t.run) n
agrees (file bs n i) = eqb (read_file bs).number n && eqb (read_file bs).index i
agrees (legs bs l) = same (read_table bs) l && same (read_file bs).table (array most_legs 0 l)
agrees (fresh t starts w f) =
    costs w f (costs_of (opened t starts) t.places t.run) && same (opened t starts).driven (array most_cranes 0 [])
agrees (sums t book r l) = same (move_sums t book r) l
agrees (netted t book r n l) = nets n l (nets_of book t.places t.run r)
agrees (quoted t book r n s m w) = figures n s m w (quote_of book t.places t.run r)
agrees (committed t book r c n w stands calls driven) =
    handed n w stands calls driven (commit_of book t.places t.run r c [] [])
agrees (print bs out) = same (print_of bs) out
agrees (posted bs out) = same (sheet_print_of bs) out
agrees (sheet t starts calls before n k out) = output n k out (sheet_of (day_of t starts calls) t.run before)
agrees (row i r s m w bs) = same (row_bytes (record { call = i; place = r; crane = s; metres = m; least = w })) bs
agrees (values bs l) = same (flat_map five (read_sheet bs)) l
agrees (places_at i n u v) = eqb (pair_at_of i).number n && eqb (pair_at_of i).pair.first u && eqb (pair_at_of i).pair.second v
agrees (index_at u v n i) = eqb (index_of u v).number n && eqb (index_of u v).index i

unfoldable pub all_agree : List Case → Bool
all_agree [] = true
all_agree (c ∷ cs) = agrees c && all_agree cs
