-- `dispatch::nets::of_book` meets its contract: the book is a day under way, and the search for the call tells w and the drive of every
-- crane. Assumes nothing.
use Prim.Native.Nat.{ℕ, ◌<◌}
use mathlib.Core.List.{List}
use mathlib.Core.Path.{◌≡◌, sym}
use borrow.Author.Rules.{rules}
use lib.ListN.{length}
use native.Mathlib.Nat.{le_trans}
use native.Mathlib.Omega.{arith}
use Rattle.road.specs.Table.{Table, most_places, metres_of, entry}
use Rattle.dayfile.specs.Day.{most_calls}
use Rattle.book.specs.Book.{most_stops, starts_of, stands_of, requests_of, BookArrays}
use Rattle.book.proofs.Sound.{Fits, starts-long, requests_long, sound_fits}
use Rattle.dispatch.specs.Insertion.{Kept}
use Rattle.dispatch.specs.Legs.{LegTable}
use Rattle.dispatch.specs.Quote.{quote_refusal}
use Rattle.dispatch.proofs.Answered.{kept_few}
use Rattle.dispatch.proofs.Taken.{kept_witnessed}
use Rattle.dispatch.proofs.Called.{Called, quote_called}
use Rattle.dispatch.proofs.Carried.{sound_given, sound_kept}
use Rattle.dispatch.proofs.Roads.{sound_roads}
use Rattle.dispatch.proofs.nets.Laws.{call_last, book_netted}
use Rattle.dispatch.proofs.nets.of_book.Goals as goal
use Rattle.dispatch.proofs.nets.of_book.Goals.{Start}

-- the table
abbrev table : Start → Table
table c = c.args.table.now

arrays : (c : Start) → BookArrays c.args.book
arrays c = record { starts = search rules; stands = search rules; requests = search rules; driven = search rules }

plan_long : (c : Start) → length c.args.book.plan ≡ most_stops
plan_long c = search rules

weights_long : (c : Start) → length c.args.book.weights ≡ most_stops
weights_long c = search rules

-- the call may be quoted
called : (c : Start) → Called c.args.book c.requires.places (table c) c.args.place
called c = quote_called c.requires.accepted

fits : (c : Start) → Fits c.args.book
fits c = sound_fits (arrays c) (called c).sound

-- the book is a day under way
kept : {costs : List ℕ} (c : Start) (n : ℕ) → quote_refusal c.args.book n (table c) c.args.place ≡ 0
    → LegTable most_places (entry (metres_of (table c))) (starts_of c.args.book) (requests_of c.args.book) (stands_of c.args.book) costs
    → Kept n (metres_of (table c)) (starts_of c.args.book) (requests_of c.args.book) (stands_of c.args.book) c.args.book.plan c.args.book.weights costs
kept c n h legs =
    sound_kept (arrays c) (quote_called h).sound (omega (arith, plan_long c)) (omega (arith, weights_long c)) legs

-- there is room for the call
room : (c : Start) → length (requests_of c.args.book) < most_calls
room c = rw (requests_long (fits c)) (called c).space

pub overflow_add-new : goal.overflow_add-new
overflow_add-new c = let k = (called (goal.at.overflow_add-new c).Start).sound.counts in omega arith

pub of_book-requires : goal.of_book-requires
of_book-requires c = sound_given (arrays (goal.at.of_book-requires c).Start) (called (goal.at.of_book-requires c).Start).sound c.requires.costed

pub extend-requires : goal.extend-requires
extend-requires c = let k = (called (goal.at.extend-requires c).Start).sound.counts in
    (omega (arith, (called (goal.at.extend-requires c).Start).space), (le_trans (called (goal.at.extend-requires c).Start).on k.places, c.of_book.ensures.costed))

pub slice_bounds-find-end : goal.slice_bounds-find-end
slice_bounds-find-end c = sym (weights_long (goal.at.slice_bounds-find-end c).Start)

pub slice_bounds-find-end-2 : goal.slice_bounds-find-end-2
slice_bounds-find-end-2 c = sym (plan_long (goal.at.slice_bounds-find-end-2 c).Start)

pub find-requires : goal.find-requires
find-requires c = let k = (called (goal.at.find-requires c).Start).sound.counts in
    let day = kept (goal.at.find-requires c).Start c.requires.places c.requires.accepted c.of_book.ensures in
    let few = kept_few day (room (goal.at.find-requires c).Start) in
    let w = kept_witnessed (sound_roads (called (goal.at.find-requires c).Start).sound).legible day (omega arith) (le_trans few day.plan_long) (called (goal.at.find-requires c).Start).on
    (call_last (arrays (goal.at.find-requires c).Start) (called (goal.at.find-requires c).Start) c.extend.ensures)
    in
    record {
      cranes = k.cranes;
      stops = omega arith;
      sized = record {
        planned = omega (arith, plan_long (goal.at.find-requires c).Start, (called (goal.at.find-requires c).Start).space);
        costed = c.extend.ensures.costed;
      };
      witnessed = rw (starts-long (fits (goal.at.find-requires c).Start), requests_long (fits (goal.at.find-requires c).Start)) at w;
    }

pub returns : goal.returns
returns c = λ n h.
    let day = kept (goal.at.returns c).Start n h c.of_book.ensures in
    book_netted (arrays (goal.at.returns c).Start) (quote_called h) day c.extend.ensures c.find.ensures.0 c.find.ensures.1
