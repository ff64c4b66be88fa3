-- `dispatch::commits::accepted` meets its contract: the book with 0 past its counts is a day under way, and the book after the call is made
-- of what serving it gives. Assumes nothing.
use Prim.Native.Nat.{ℕ, ◌+◌, ◌*◌, ◌<◌, ◌≤◌}
use mathlib.Core.List.{List}
use mathlib.Core.Path.{◌≡◌, refl, sym}
use borrow.Author.Rules.{rules}
use lib.ListN.{length, get_or}
use native.Mathlib.Omega.{arith}
use mir.Syntax.{w32}
use mir.Val.{Fits as Val-as-Fits}
use Rattle.road.specs.Table.{Table, most_places, most_metres, metres_of, entry}
use Rattle.book.specs.declared.Book.{Book}
use Rattle.book.specs.Book.{most_stops, starts_of, stands_of, requests_of, BookArrays, SameBook}
use Rattle.dispatch.specs.Insertion.{Kept}
use Rattle.dispatch.specs.Legs.{LegTable}
use Rattle.dispatch.specs.Commit.{commit_refusal, tidied}
use Rattle.dispatch.proofs.Called.{Called, commit_called}
use Rattle.dispatch.proofs.Carried.{sound_given, sound_kept, sent as Carried·sent, driven_room, committed-after, next}
use Rattle.book.proofs.Sound.{Fits, fit, starts-long, stands_long, requests_long, book_sound, sound_book, sound_fits}
use Rattle.dispatch.proofs.Roads.{sound_roads}
use Rattle.dispatch.proofs.tidy.Laws.{tidy_same, tidy_refusal, tidy_plan, tidy_driven, tidy_weights}
use Rattle.dispatch.proofs.commits.accepted.Goals as goal
use Rattle.dispatch.proofs.commits.accepted.Goals.{After-serve_call-step, After-tidy-tidy}

-- a book of which a commit is accepted, and the same with 0 past its counts
module _ {book tidy : Book} (t : Table) (place crane n : ℕ) (e : tidy ≡ tidied book) (given : BookArrays book) (h : commit_refusal book n t place crane ≡ 0) where
  fits : Fits book
  fits = let k = (commit_called h).0.sound.counts in fit given k.cranes k.calls

  same : SameBook tidy book
  same = tidy_same _ e fits

  tested : Called tidy n t place
  tested =
      let k = (commit_called h).0 in
      record {
        sound = book_sound (rw (tidy_refusal _ e fits n t) (sound_book k.sound));
        on = k.on;
        space = rw same.calls k.space;
      }

-- it is a day under way
kept : {tidy : Book} {n : ℕ} {t : Table} {place : ℕ} {costs : List ℕ} → BookArrays tidy → length tidy.plan ≡ most_stops → length tidy.weights ≡ most_stops
    → Called tidy n t place → LegTable most_places (entry (metres_of t)) (starts_of tidy) (requests_of tidy) (stands_of tidy) costs
    → Kept n (metres_of t) (starts_of tidy) (requests_of tidy) (stands_of tidy) tidy.plan tidy.weights costs
kept arrays plan weights called legs = sound_kept arrays called.sound (omega arith) (omega arith) legs

-- the arrays by crane and by call of the book, and of the one with 0 past its counts
given : (c : After-tidy-tidy) → BookArrays c.args.book
given c = record { starts = search rules; stands = search rules; requests = search rules; driven = search rules }

arrays : (c : After-tidy-tidy) → BookArrays c.tidy-tidy.result
arrays c = record { starts = search rules; stands = search rules; requests = search rules; driven = search rules }

plan_long : (c : After-tidy-tidy) → length c.tidy-tidy.result.plan ≡ most_stops
plan_long c = search rules

weights_long : (c : After-tidy-tidy) → length c.tidy-tidy.result.weights ≡ most_stops
weights_long c = search rules

tested_so : (c : After-tidy-tidy) → Called c.tidy-tidy.result c.requires.0 c.args.table.now c.args.place
tested_so c = tested _ _ _ _ c.tidy-tidy.ensures (given c) c.requires.1

tidy_fits : (c : After-tidy-tidy) → Fits c.tidy-tidy.result
tidy_fits c = sound_fits (arrays c) (tested_so c).sound

-- the crane sent is one of the book's, and any crane's metres have room for the drive
sent : (c : After-serve_call-step) → let b = c.tidy-tidy.result in
    (c.serve_call-step.result.crane < b.cranes) × ((j : ℕ) → get_or b.driven j 0 + c.serve_call-step.result.metres ≤ most_metres * (b.calls + 1))
sent c =
    let given : BookArrays c.args.book = record { starts = search rules; stands = search rules; requests = search rules; driven = search rules } in
    let arrays : BookArrays c.tidy-tidy.result = record { starts = search rules; stands = search rules; requests = search rules; driven = search rules } in
    let plan : length c.tidy-tidy.result.plan ≡ most_stops = search rules in
    let weights : length c.tidy-tidy.result.weights ≡ most_stops = search rules in
    let k = tested _ _ _ _ c.tidy-tidy.ensures given c.requires.1 in
    let day = kept arrays plan weights k c.of_book.ensures in
    let answered = c.serve_call-step.ensures.served.answered c.requires.0 (metres_of c.args.table.now) (sound_roads k.sound) day k.on in
    (Carried·sent arrays k.sound k.on k.space answered, driven_room arrays k.sound k.on k.space answered (tidy_driven _ c.tidy-tidy.ensures))

room : (c : After-serve_call-step) (j : ℕ) → let b = c.tidy-tidy.result in Val-as-Fits w32 (get_or b.driven j 0 + c.serve_call-step.result.metres)
room c j =
    let given : BookArrays c.args.book = record { starts = search rules; stands = search rules; requests = search rules; driven = search rules } in
    let k = tested _ _ _ _ c.tidy-tidy.ensures given c.requires.1 in
    omega (arith, (sent c).1 j, k.space)

pub tidy-tidy-requires : goal.tidy-tidy-requires
tidy-tidy-requires c = let k = (commit_called c.requires.1).0.sound.counts in (k.cranes, k.calls)

pub of_book-requires : goal.of_book-requires
of_book-requires c = sound_given (arrays (goal.at.of_book-requires c).After-tidy-tidy) (tested_so (goal.at.of_book-requires c).After-tidy-tidy).sound c.zeros.ensures

pub shared_ref_as_front-instance : goal.shared_ref_as_front-instance
shared_ref_as_front-instance c = (tested_so (goal.at.shared_ref_as_front-instance c).After-tidy-tidy).sound.counts.cranes

pub slice_bounds-instance-end : goal.slice_bounds-instance-end
slice_bounds-instance-end c = sym (starts-long (tidy_fits (goal.at.slice_bounds-instance-end c).After-tidy-tidy))

pub slice_bounds-requests-end : goal.slice_bounds-requests-end
slice_bounds-requests-end c = (tidy_fits (goal.at.slice_bounds-requests-end c).After-tidy-tidy).requests

pub slice_bounds-instance-end-2 : goal.slice_bounds-instance-end-2
slice_bounds-instance-end-2 c = sym (requests_long (tidy_fits (goal.at.slice_bounds-instance-end-2 c).After-tidy-tidy))

pub slice_bounds-stands-end : goal.slice_bounds-stands-end
slice_bounds-stands-end c = (tidy_fits (goal.at.slice_bounds-stands-end c).After-tidy-tidy).stands

pub slice_bounds-serve_call-end : goal.slice_bounds-serve_call-end
slice_bounds-serve_call-end c = sym (stands_long (tidy_fits (goal.at.slice_bounds-serve_call-end c).After-tidy-tidy))

pub serve_call-step-requires : goal.serve_call-step-requires
serve_call-step-requires c = let k = tested_so (goal.at.serve_call-step-requires c).After-tidy-tidy in
    let at = (goal.at.serve_call-step-requires c).After-tidy-tidy in
    let day = kept (arrays at) (plan_long at) (weights_long at) k c.of_book.ensures in (
      omega arith,
      record {
        places = c.requires.0;
        metres = metres_of c.args.table.now;
        roads = sound_roads k.sound;
        kept = day;
        on = k.on;
        space = rw (requests_long (tidy_fits (goal.at.serve_call-step-requires c).After-tidy-tidy)) k.space;
        ends = λ e h. rw (starts-long (tidy_fits (goal.at.serve_call-step-requires c).After-tidy-tidy), (same _ _ _ _ c.tidy-tidy.ensures (given at) c.requires.1).cranes) (commit_called c.requires.1).1;
      },
    )

pub offset_bounds-requests-calls : goal.offset_bounds-requests-calls
offset_bounds-requests-calls c = omega (arith, (tested_so (goal.at.offset_bounds-requests-calls c).After-tidy-tidy).space)

pub bounds-requests-calls : goal.bounds-requests-calls
bounds-requests-calls c = (tested_so (goal.at.bounds-requests-calls c).After-tidy-tidy).space

pub offset_bounds-driven-sent : goal.offset_bounds-driven-sent
offset_bounds-driven-sent c = omega (arith, (sent (goal.at.offset_bounds-driven-sent c).After-serve_call-step).0, (tested_so (goal.at.offset_bounds-driven-sent c).After-tidy-tidy).sound.counts)

pub bounds-driven-sent : goal.bounds-driven-sent
bounds-driven-sent c = omega (arith, (sent (goal.at.bounds-driven-sent c).After-serve_call-step).0, (tested_so (goal.at.bounds-driven-sent c).After-tidy-tidy).sound.counts)

pub overflow_add-driven : goal.overflow_add-driven
overflow_add-driven c = room (goal.at.overflow_add-driven c).After-serve_call-step _

pub bounds-driven-sent-2 : goal.bounds-driven-sent-2
bounds-driven-sent-2 c = omega (arith, (sent (goal.at.bounds-driven-sent-2 c).After-serve_call-step).0, (tested_so (goal.at.bounds-driven-sent-2 c).After-tidy-tidy).sound.counts)

pub overflow_add-result : goal.overflow_add-result
overflow_add-result c = omega (arith, (tested_so (goal.at.overflow_add-result c).After-tidy-tidy).space)

pub returns : goal.returns
returns c = λ n h.
    let at = (goal.at.returns c).After-tidy-tidy in
    let k = tested _ _ _ _ c.tidy-tidy.ensures (given at) h in
    let day = kept (arrays at) (plan_long at) (weights_long at) k c.of_book.ensures in
    let answered = c.serve_call-step.ensures.served.answered n (metres_of c.args.table.now) (sound_roads k.sound) day k.on in (
      committed-after (arrays at) k.sound k.on k.space answered refl c.tidy-tidy.ensures (same _ _ _ _ c.tidy-tidy.ensures (given at) h),
      next (arrays at) k.sound k.on k.space answered c.serve_call-step.ensures.served.unmoved (tidy_plan _ c.tidy-tidy.ensures) (tidy_weights _ c.tidy-tidy.ensures),
    )
