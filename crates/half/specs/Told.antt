-- What is told over a square: for every input the tests of a day and of a book, and what each function of the library gives, with the
-- metres of the square.
use Rattle.std.specs.Prelude.{ℕ, not, ℤ, pos, length, replicate}
use mathlib.Core.List.{List, [], ◌∷◌, ◌++◌, flat_map}
use Rattle.base.specs.Lists.{up_to, padded}
use Rattle.base.specs.Numbers.{unless, ◌then◌, unless_refused}
use Rattle.road.specs.Table.{places_refusal}
use Rattle.dayfile.specs.declared.Day.{Day}
use Rattle.dayfile.specs.Day.{most_cranes, cranes_rule, calls_rule, stops_refusal, day_starts, day_requests}
use Rattle.dayfile.specs.File.{Output, output_of, day_bytes}
use Rattle.workfunction.specs.Choice.{moved, drive, net_cost}
use Rattle.workfunction.specs.Movement.{work, floor}
use Rattle.workfunction.specs.Plan.{leg_cost, plan_floor}
use Rattle.workfunction.specs.Position.{distance}
use Rattle.workfunction.specs.Serving.{served, serve, stands_after}
use Rattle.book.specs.declared.Book.{Book}
use Rattle.book.specs.Book.{starts_of, stands_of, requests_of, driven_of, stops_of, plan_refusal, weights_refusal, driven_refusal, book_day, fresh_book, empty_book, Opened}
use Rattle.near.specs.Count.{count, first}
use Rattle.near.specs.Near.{NearCranes, near_after}
use Rattle.near.specs.Occupancy.{holds_crane, HeldPlaces}
use Rattle.dispatch.specs.Commit.{asked_crane_refusal, tidied, book_after, Committed}
use Rattle.dispatch.specs.Costs.{TwoCosts}
use Rattle.dispatch.specs.NetCosts.{NetList}
use Rattle.dispatch.specs.PlanFloor.{FloorTold}
use Rattle.dispatch.specs.Quote.{asked_place_refusal, full_refusal, Quoted, unserved}
use Rattle.dispatch.specs.ServedDay.{DayFigures, all_figures, no_figures}
use Rattle.sheet.specs.Row.{row_bytes}
use Rattle.sheet.specs.Sheet.{row_at}
use Rattle.half.specs.Square.{Square, square_metres, square_legs_refusal, square_triangle_refusal}

-- "In memory: 3, 6, 7, 4, 5 (starts, calls ..)", then 8: a day beside a square
abbrev pub square_placed_refusal : Day → Square → ℕ
square_placed_refusal day s =
    (places_refusal day.places then unless (cranes_rule day.cranes) 6 then unless (calls_rule day.calls) 7) then
    square_legs_refusal day.places s then stops_refusal day.places (day_starts day) then stops_refusal day.places (day_requests day)

unfoldable pub square_day_refusal : Day → Square → ℕ
square_day_refusal day s = square_placed_refusal day s then square_triangle_refusal day.places s

-- "In memory: 3, 6, 7, 4, 5 (starts, calls, stands), 8, 9, 10", and 13 (paper 5): a book beside a square
unfoldable pub square_book_refusal : Book → ℕ → Square → ℕ
square_book_refusal book n s =
    square_placed_refusal (book_day book n) s then stops_refusal n (stands_of book) then square_triangle_refusal n s then
    plan_refusal book.cranes (stops_of book) book.plan then
    weights_refusal book.cranes (stops_of book) book.plan book.weights
    (leg_cost (square_metres s) (starts_of book) (requests_of book) (stands_of book)) then driven_refusal book.calls (driven_of book)

-- paper 11: the least plan of a day that ends at its starts
unfoldable pub square_plan_floor : Day → Square → FloorTold
square_plan_floor day s =
    unless_refused (square_placed_refusal day s) (record { number = 0; floor = plan_floor (square_metres s) (day_starts day) (day_requests day) })
    (λ m. record { number = m; floor = 0 })

-- the fresh book of a day
unfoldable pub square_fresh : Day → Square → Opened
square_fresh day s =
    unless_refused (square_day_refusal day s) (record { number = 0; book = fresh_book day.cranes day.starts })
    (λ m. record { number = m; book = empty_book })

-- "The costs of a book"
unfoldable pub square_costs : Book → ℕ → Square → TwoCosts
square_costs book n s =
    unless_refused (square_book_refusal book n s)
    (record {
      number = 0;
      least = work (square_metres s) n (starts_of book) (requests_of book) (stands_of book);
      floor = floor (square_metres s) n (starts_of book) (requests_of book);
    })
    (λ m. record { number = m; least = 0; floor = 0 })

-- the tests of a quote, and of net costs
abbrev pub square_quote_refusal : Book → ℕ → Square → ℕ → ℕ
square_quote_refusal book n s r = square_book_refusal book n s then asked_place_refusal n r then full_refusal book.calls

-- the quote of a call at r: the crane chosen, its metres, and the least
unfoldable pub square_quote : Book → ℕ → Square → ℕ → Quoted
square_quote book n s r =
    unless_refused (square_quote_refusal book n s r)
    (record { number = 0; figures = served (square_metres s) n (starts_of book) (requests_of book) (stands_of book) r })
    (λ m. record { number = m; figures = unserved })

-- the net costs of a call at r
unfoldable pub square_nets : Book → ℕ → Square → ℕ → NetList
square_nets book n s r =
    unless_refused (square_quote_refusal book n s r)
    (record { number = 0; nets = padded most_cranes book.cranes (net_cost (square_metres s) n (starts_of book) (requests_of book) (stands_of book) r) (pos 0) })
    (λ m. record { number = m; nets = replicate most_cranes (pos 0) })

-- the tests of a commit of crane c to a call at r
abbrev pub square_commit_refusal : Book → ℕ → Square → ℕ → ℕ → ℕ
square_commit_refusal book n s r c =
    square_book_refusal book n s then asked_place_refusal n r then asked_crane_refusal book.cranes c then full_refusal book.calls

-- what it gives, with some plan and some weights
unfoldable pub square_commit : Book → ℕ → Square → ℕ → ℕ → List ℕ → List ℤ → Committed
square_commit book n s r c plan weights =
    unless_refused (square_commit_refusal book n s r c)
    (record {
      number = 0;
      least = work (square_metres s) n (starts_of book) (requests_of book ++ (r ∷ [])) (moved (stands_of book) r c);
      book = book_after (tidied book) c r (drive (square_metres s) (stands_of book) r c) plan weights;
    })
    (λ m. record { number = m; least = 0; book = book })

-- paper 9: the cranes near a place, into a buffer
unfoldable pub square_near : Book → ℕ → Square → ℕ → ℕ → List ℕ → NearCranes
square_near book n s place distance out =
    near_after (square_book_refusal book n s then stops_refusal n (place ∷ []))
    (up_to (length (stands_of book)) (drive (square_metres s) (stands_of book) place)) distance out

-- paper 9: the places that hold a crane
unfoldable pub square_occupancy : Book → ℕ → Square → HeldPlaces
square_occupancy book n s =
    unless_refused (square_book_refusal book n s)
    (record { number = 0; held = count n (holds_crane book); free = first n (λ p. not (holds_crane book p)) })
    (λ m. record { number = m; held = 0; free = 0 })

-- the served day
unfoldable pub square_served : Day → Square → DayFigures
square_served day s =
    unless_refused (square_day_refusal day s)
    (all_figures day.calls (serve (square_metres s) day.places (day_starts day) [] (day_starts day) (day_requests day))
    (distance (square_metres s) (stands_after (square_metres s) day.places (day_starts day) [] (day_starts day) (day_requests day)) (day_starts day))
    (floor (square_metres s) day.places (day_starts day) (day_requests day)))
    no_figures

-- its sheet, into a buffer
unfoldable pub square_sheet : Day → Square → List ℕ → Output
square_sheet day s out =
    let f = square_served day s in
    output_of (square_day_refusal day s) (flat_map row_bytes (up_to f.calls (row_at (day_requests day) f.cranes f.metres f.leasts))) out

-- the day's file, into a buffer
unfoldable pub square_file : Day → Square → List ℕ → Output
square_file day s out = output_of (square_day_refusal day s) (day_bytes day (square_metres s)) out
