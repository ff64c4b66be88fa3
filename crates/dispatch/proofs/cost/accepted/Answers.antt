-- `dispatch::cost::accepted` meets its contract: plan and weights are copied, the plan costs the least, and with its ends at the starts the
-- floor. Assumes nothing.
use mathlib.Core.Path.{◌≡◌, sym}
use borrow.Author.Rules.{rules}
use lib.ListN.{length}
use native.Mathlib.Omega.{arith}
use Rattle.book.specs.Book.{most_stops, BookArrays}
use Rattle.book.proofs.Sound.{Fits, starts-long, requests_long, Sound, book_sound, sound_fits}
use Rattle.dispatch.proofs.Carried.{sound_given}
use Rattle.dispatch.proofs.cost.Laws.{book_movable, copied_long, copied_below, book_costs}
use Rattle.dispatch.proofs.cost.accepted.Goals as goal
use Rattle.dispatch.proofs.cost.accepted.Goals.{Start}

arrays : (c : Start) → BookArrays c.args.book
arrays c = record { starts = search rules; stands = search rules; requests = search rules; driven = search rules }

plan_long : (c : Start) → length c.args.book.plan ≡ most_stops
plan_long c = search rules

weights_long : (c : Start) → length c.args.book.weights ≡ most_stops
weights_long c = search rules

-- the book is sound
sound : (c : Start) → Sound c.args.book c.requires.0 c.args.table.now
sound c = book_sound c.requires.1

fits : (c : Start) → Fits c.args.book
fits c = sound_fits (arrays c) (sound c)

pub overflow_add-stops : goal.overflow_add-stops
overflow_add-stops c = let k = (sound (goal.at.overflow_add-stops c).Start).counts in omega arith

pub copy-plan-requires : goal.copy-plan-requires
copy-plan-requires c = let k = (sound (goal.at.copy-plan-requires c).Start).counts in
    (omega arith, omega (arith, plan_long (goal.at.copy-plan-requires c).Start))

pub copy-weights-requires : goal.copy-weights-requires
copy-weights-requires c = let k = (sound (goal.at.copy-weights-requires c).Start).counts in
    (omega arith, omega (arith, weights_long (goal.at.copy-weights-requires c).Start))

pub of_book-requires : goal.of_book-requires
of_book-requires c = sound_given (arrays (goal.at.of_book-requires c).Start) (sound (goal.at.of_book-requires c).Start) c.zeros-costs.ensures

pub cost-least-requires : goal.cost-least-requires
cost-least-requires c = let k = (sound (goal.at.cost-least-requires c).Start).counts in
    record {
      few = omega arith;
      planned =
          copied_long (arrays (goal.at.cost-least-requires c).Start) (sound (goal.at.cost-least-requires c).Start) (omega (arith, plan_long (goal.at.cost-least-requires c).Start)) (omega (arith, weights_long (goal.at.cost-least-requires c).Start)) c.copy-plan.ensures c.copy-weights.ensures
          c.of_book.ensures;
      costed = c.of_book.ensures.costed;
      below =
          copied_below (arrays (goal.at.cost-least-requires c).Start) (sound (goal.at.cost-least-requires c).Start) (omega (arith, plan_long (goal.at.cost-least-requires c).Start)) (omega (arith, weights_long (goal.at.cost-least-requires c).Start)) c.copy-plan.ensures c.copy-weights.ensures
          c.of_book.ensures;
    }

pub slice_bounds-starts-end : goal.slice_bounds-starts-end
slice_bounds-starts-end c = (fits (goal.at.slice_bounds-starts-end c).Start).starts

pub slice_bounds-instance-end : goal.slice_bounds-instance-end
slice_bounds-instance-end c = sym (starts-long (fits (goal.at.slice_bounds-instance-end c).Start))

pub slice_bounds-requests-end : goal.slice_bounds-requests-end
slice_bounds-requests-end c = (fits (goal.at.slice_bounds-requests-end c).Start).requests

pub slice_bounds-instance-end-2 : goal.slice_bounds-instance-end-2
slice_bounds-instance-end-2 c = sym (requests_long (fits (goal.at.slice_bounds-instance-end-2 c).Start))

pub floor-floor-requires : goal.floor-floor-requires
floor-floor-requires c = let m = book_movable (arrays (goal.at.floor-floor-requires c).Start) (sound (goal.at.floor-floor-requires c).Start) (omega (arith, plan_long (goal.at.floor-floor-requires c).Start)) (omega (arith, weights_long (goal.at.floor-floor-requires c).Start)) c.copy-plan.ensures c.copy-weights.ensures
    c.of_book.ensures
    in
    record { places = _; stands = _; movable = m; ending = m.kept.asked.day.started }

pub returns : goal.returns
returns c = λ n h.
    book_costs (arrays (goal.at.returns c).Start) (book_sound h) (omega (arith, plan_long (goal.at.returns c).Start)) (omega (arith, weights_long (goal.at.returns c).Start)) c.copy-plan.ensures c.copy-weights.ensures
    c.of_book.ensures c.cost-least.ensures c.floor-floor.ensures.0
