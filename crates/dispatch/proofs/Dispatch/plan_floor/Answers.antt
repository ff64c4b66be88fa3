-- `dispatch::Dispatch::plan_floor` meets its contract: a refusal of the day is handed up with 0, else the floor is that of its starts and
-- calls. Assumes nothing.
use Prim.Native.Nat.{ℕ}
use mathlib.Core.Path.{◌≡◌, refl, sym}
use borrow.Author.Rules.{rules}
use Rattle.base.proofs.Numbers.{told_up}
use Rattle.road.specs.Table.{Table, metres_of, entry}
use Rattle.dayfile.specs.declared.Day.{Day}
use Rattle.dayfile.specs.Day.{day_starts, day_requests, DayArrays, placed_refusal}
use Rattle.dayfile.proofs.Limits.{Placed, day_placed}
use Rattle.workfunction.specs.Plan.{plan_floor}
use Rattle.workfunction.proofs.Least.{plan_floor-same}
use Rattle.dispatch.specs.PlanFloor.{FloorTold, floor_told, plan_floor_of}
use Rattle.dispatch.proofs.Roads.{placed_legible, placed_instance, placed_asked}
use Rattle.dispatch.proofs.ends.Laws.{read_legible}
use Rattle.dispatch.proofs.Dispatch.plan_floor.Goals as goal

told : (day : Day) (t : Table) → DayArrays day → placed_refusal day t ≡ 0 → {floor : ℕ}
    → floor ≡ plan_floor (entry (metres_of t)) (day_starts day) (day_requests day)
    → ◌≡◌ {A = FloorTold} (record { number = 0; floor = floor }) (plan_floor_of day t)
unfolding plan_floor_of
told day t arrays accepted e =
    let h = day_placed day t accepted in
    rw (accepted, e, plan_floor-same (placed_instance h arrays) (placed_legible h).reads)

-- what the test of the day tells once it accepted
tested : {day : Day} {t : Table} → 0 ≡ placed_refusal day t → Placed day t
tested {day} {t} h = day_placed day t (sym h)

pub returns-in_err-test_placed : goal.returns-in_err-test_placed
unfolding plan_floor_of
returns-in_err-test_placed c = told_up floor_told _ _ _ _ _ c.from_residual.ensures.1 c.in_err-test_placed.ensures refl

pub of_day-requires : goal.of_day-requires
of_day-requires c = let h = tested c.in_ok-test_placed.ensures in
    let arrays : DayArrays c.args.day = record { starts = search rules; requests = search rules } in
    record { places = _; legible = read_legible (placed_legible h); asked = placed_asked h arrays }

pub returns : goal.returns
returns c = let arrays : DayArrays c.args.day = record { starts = search rules; requests = search rules } in
    told _ _ arrays (sym c.in_ok-test_placed.ensures) c.of_day.ensures

pub shared_ref_as_front-instance : goal.shared_ref_as_front-instance
shared_ref_as_front-instance c = (tested c.in_ok-test_placed.ensures).counts.cranes

pub shared_ref_as_front-instance-2 : goal.shared_ref_as_front-instance-2
shared_ref_as_front-instance-2 c = (tested c.in_ok-test_placed.ensures).counts.calls
