-- `dayfile::Day::write` meets its contract: a refusal leaves the buffer as it is, else the day's bytes are at its front.
-- Assumes nothing.
use Prim.Native.Nat.{ℕ, ◌+◌, ◌*◌, ◌≤◌}
use mathlib.Core.Path.{◌≡◌, sym, ◌∙◌}
use borrow.Author.Rules.{rules}
use lib.ListN.{length}
use native.Mathlib.Omega.{arith}
use Rattle.base.proofs.Numbers.{exits, refused_number}
use Rattle.road.specs.Table.{Table, most_legs, leg_count, legs_of, metres_of}
use Rattle.road.proofs.Order.{legs_counted, leg_count_most}
use Rattle.dayfile.specs.declared.Day.{Day}
use Rattle.dayfile.specs.Day.{DayArrays, day_refusal}
use Rattle.dayfile.specs.File.{day_bytes}
use Rattle.dayfile.proofs.Limits.{CountsTested, length-starts, length_requests, day-tested}
use Rattle.dayfile.proofs.Outputs.{output_refused, output-short, output-written, length-day}
use Rattle.dayfile.proofs.Day.write.Goals as goal

-- what the test of the day tells once it accepted
module _ (day : Day) (t : Table) (h : 0 ≡ day_refusal day t) where
  counts : CountsTested day.places (length t) day.cranes day.calls
  counts = (day-tested _ _ (sym h)).counts

  few : leg_count day.places ≤ most_legs
  few = leg_count_most _ counts.places

  long : DayArrays day → length (day_bytes day (metres_of t)) ≡ 12 * (leg_count day.places + day.cranes + day.calls)
  long arrays = length-day day t (length-starts _ arrays counts.cranes) (length_requests _ arrays counts.calls)

  -- the records of the legs
  counted : (l : ℕ) → l ≡ legs_of day.places → l ≡ leg_count day.places
  counted l told = told ∙ legs_counted _ counts.places

pub returns-in_err-test : goal.returns-in_err-test
returns-in_err-test c = rw (exits _ _ c.from_residual.ensures.1) (output_refused _ _ _ _ c.in_err-test.ensures (refused_number _))

pub overflow_add-records : goal.overflow_add-records
overflow_add-records c = let h = c.in_ok-test.ensures in omega (arith, counts _ _ h, few _ _ h, counted _ _ h _ c.legs.ensures)

pub overflow_add-records-2 : goal.overflow_add-records-2
overflow_add-records-2 c = let h = c.in_ok-test.ensures in omega (arith, counts _ _ h, few _ _ h, counted _ _ h _ c.legs.ensures)

pub overflow_mul-length : goal.overflow_mul-length
overflow_mul-length c = let h = c.in_ok-test.ensures in omega (arith, counts _ _ h, few _ _ h, counted _ _ h _ c.legs.ensures)

pub returns-then-out-length : goal.returns-then-out-length
returns-then-out-length c = let h = c.in_ok-test.ensures in
    let arrays : DayArrays c.args.self = record { starts = search rules; requests = search rules } in
    output-short _ _ _ (sym h) (long _ _ h arrays) (rw (counted _ _ h _ c.legs.ensures) at c.if-out-length.true)

pub put-requires : goal.put-requires
put-requires c = let h = c.in_ok-test.ensures in
    let k = counts _ _ h in
    record { places = k.places; cranes = k.cranes; calls = k.calls; long = rw (counted _ _ h _ c.legs.ensures) at c.if-out-length.false }

pub returns : goal.returns
returns c = let h = c.in_ok-test.ensures in
    let arrays : DayArrays c.args.self = record { starts = search rules; requests = search rules } in
    output-written _ _ _ (sym h) (rw (counted _ _ h _ c.legs.ensures) (long _ _ h arrays)) _ c.if-out-length.false c.put.ensures
