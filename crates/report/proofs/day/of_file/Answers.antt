-- `report::day::of_file` meets its contract: the line of the refusal of the file, or what is told of its day.
-- Assumes nothing.
use Prim.Native.Nat.{ℕ, ◌≤◌}
use mathlib.Core.List.{List}
use mathlib.Core.Path.{◌≡◌, refl, sym, ap, ◌∙◌}
use borrow.Author.Rules.{rules}
use lib.ListN.{length}
use lib.Seq.{length-take-le}
use Rattle.base.proofs.Numbers.{refused_number}
use Rattle.road.specs.Table.{most_legs, legs_of}
use Rattle.road.proofs.Order.{legs_most}
use Rattle.report.specs.Report.{printed}
use Rattle.report.proofs.Outputs.{file_refused, file_told}
use Rattle.report.proofs.day.of_file.Goals as goal

-- the legs are within the table that is read
few : (legs places : ℕ) (table : List ℕ) → legs ≡ legs_of places → length table ≡ most_legs → legs ≤ length table
few legs places table e long = rw (e, long) (legs_most places)

pub shared_ref_as_front-tell : goal.shared_ref_as_front-tell
shared_ref_as_front-tell g c = rw c.legs-legs.ensures (legs_most c.in-Ok.reading.day.places)

pub slice_bounds-tell-end : goal.slice_bounds-tell-end
slice_bounds-tell-end g c = sym (length-take-le _ _ (few _ _ c.in-Ok.reading.table c.legs-legs.ensures (search rules)))

pub returns-in-Ok : goal.returns-in-Ok
returns-in-Ok g c = λ told h. h _ _ _ _ _ c.tell.ensures ∙ ap printed (file_told told _ _ c.in-Ok.ensures c.legs-legs.ensures refl)

pub returns-in-Err : goal.returns-in-Err
returns-in-Err g c = λ told h. c.put_refused.ensures ∙ ap printed (file_refused told _ _ c.in-Err.ensures _ refl (refused_number _))
