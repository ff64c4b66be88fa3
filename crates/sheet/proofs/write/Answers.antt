-- `sheet::write` meets its contract: a refusal leaves the buffer as it is, else the rows of the served day are at its front.
-- Assumes nothing.
use mathlib.Core.Path.{◌≡◌, sym}
use borrow.Author.Rules.{rules}
use lib.ListN.{length}
use lib.Seq.{length-take-le}
use native.Mathlib.Omega.{arith}
use Rattle.base.proofs.Numbers.{exits, refused_number}
use Rattle.dayfile.specs.Day.{most_calls, DayArrays}
use Rattle.dayfile.proofs.Outputs.{output_refused, output-short, output-written}
use Rattle.sheet.proofs.Outputs.{told_number, few_calls, as_many, rows_fit, rows_are, rows_long}
use Rattle.sheet.proofs.write.Goals as goal

pub returns-in_err-served : goal.returns-in_err-served
returns-in_err-served c = rw (exits _ _ c.from_residual.ensures.1) (output_refused _ _ _ _ (told_number _ _ _ c.in_err-served.ensures) (refused_number _))

pub overflow_mul-length : goal.overflow_mul-length
overflow_mul-length c = let arrays : DayArrays c.args.day = record { starts = search rules; requests = search rules } in
    let tested = sym (told_number _ _ _ c.in_ok-served.ensures) in
    omega (arith, few_calls _ _ _ c.in_ok-served.ensures arrays tested)

pub returns-then-out-length : goal.returns-then-out-length
returns-then-out-length c = let arrays : DayArrays c.args.day = record { starts = search rules; requests = search rules } in
    let tested = sym (told_number _ _ _ c.in_ok-served.ensures) in
    output-short _ _ _ tested (rows_long _ _ _ c.in_ok-served.ensures arrays tested) c.if-out-length.true

pub slice_bounds-put-end : goal.slice_bounds-put-end
slice_bounds-put-end c = let arrays : DayArrays c.args.day = record { starts = search rules; requests = search rules } in
    let tested = sym (told_number _ _ _ c.in_ok-served.ensures) in
    sym (length-take-le _ _ (omega (arith, few_calls _ _ _ c.in_ok-served.ensures arrays tested, arrays.requests)))

pub put-requires : goal.put-requires
put-requires c = let arrays : DayArrays c.args.day = record { starts = search rules; requests = search rules } in
    let tested = sym (told_number _ _ _ c.in_ok-served.ensures) in
    let most = few_calls _ _ _ c.in_ok-served.ensures arrays tested in
    let long = as_many _ _ _ c.in_ok-served.ensures arrays tested in
    let cranes : length c.in_ok-served.served.cranes ≡ most_calls = search rules in
    let metres : length c.in_ok-served.served.metres ≡ most_calls = search rules in
    let leasts : length c.in_ok-served.served.leasts ≡ most_calls = search rules in
    record {
      sent = omega arith;
      driven = omega arith;
      costed = omega arith;
      fits = rows_fit _ _ _ c.in_ok-served.ensures arrays tested;
      room = omega (arith, c.if-out-length.false);
    }

pub returns : goal.returns
returns c = let arrays : DayArrays c.args.day = record { starts = search rules; requests = search rules } in
    let tested = sym (told_number _ _ _ c.in_ok-served.ensures) in
    output-written _ _ _ tested (rows_long _ _ _ c.in_ok-served.ensures arrays tested) _ c.if-out-length.false
    (rw (rows_are _ _ _ c.in_ok-served.ensures arrays tested) at c.put.ensures)

pub shared_ref_as_front-put : goal.shared_ref_as_front-put
shared_ref_as_front-put c = let arrays : DayArrays c.args.day = record { starts = search rules; requests = search rules } in
    let tested = sym (told_number _ _ _ c.in_ok-served.ensures) in
    few_calls _ _ _ c.in_ok-served.ensures arrays tested
