-- `rough::floors` meets its contract: a refusal is handed up with zeros; once all is tested neither least plan is refused, and the two are the
-- floors. Assumes nothing.
use mathlib.Core.Path.{◌≡◌, refl, sym, ap, ◌∙◌}
use Rattle.std.specs.Prelude.{Err}
use Rattle.base.specs.declared.Refusal.{Refusal}
use Rattle.base.proofs.Numbers.{refused_number, told_up}
use Rattle.road.specs.Table.{Table}
use Rattle.dayfile.specs.declared.Day.{Day}
use Rattle.dayfile.specs.Day.{placed_refusal}
use Rattle.dayfile.proofs.Limits.{placed_accepted}
use Rattle.dispatch.specs.PlanFloor.{FloorTold, floor_told, plan_floor_of}
use Rattle.dispatch.proofs.Promise.{plan_floor_is}
use Rattle.rough.specs.Rough.{rough_refusal, TwoFloors, two_floors, rough_of}
use Rattle.rough.proofs.tests.Laws.{rough_tested}
use Rattle.rough.proofs.floors.Goals as goal

module _ (day : Day) (lower upper : Table) where
  module _ (accepted : rough_refusal day lower upper ≡ 0) where
    -- the day passes its own tests before 8 over either table
    low_accepted : placed_refusal day lower ≡ 0
    low_accepted = placed_accepted day lower (rough_tested day lower upper accepted).low

    high_accepted : placed_refusal day upper ≡ 0
    high_accepted = placed_accepted day upper (rough_tested day lower upper accepted).high

    two_told : {low high : FloorTold} → low ≡ plan_floor_of day lower → high ≡ plan_floor_of day upper
        → ◌≡◌ {A = TwoFloors} (record { number = 0; lower = low.floor; upper = high.floor }) (rough_of day lower upper)
    unfolding rough_of
    two_told e f = rw (e, f, plan_floor_is day lower low_accepted, plan_floor_is day upper high_accepted, accepted)

-- so its least plan is not refused
not_refused : (day : Day) (t : Table) (x : Refusal) → placed_refusal day t ≡ 0 → floor_told (Err x) ≡ plan_floor_of day t → ⊥
not_refused day t x accepted e = refused_number x (ap (λ (f : FloorTold). f.number) e ∙ rw (plan_floor_is day t accepted))

pub returns-in_err-test : goal.returns-in_err-test
unfolding rough_of
returns-in_err-test c = told_up two_floors _ _ _ _ _ c.from_residual.ensures.1 c.in_err-test.ensures refl

pub returns-in_err-plan_floor : goal.returns-in_err-plan_floor
returns-in_err-plan_floor c = absurd (not_refused _ _ _ (low_accepted _ _ _ (sym c.in_ok-test.ensures)) c.in_err-plan_floor.ensures)

pub returns-in_err-plan_floor-2 : goal.returns-in_err-plan_floor-2
returns-in_err-plan_floor-2 c = absurd (not_refused _ _ _ (high_accepted _ _ _ (sym c.in_ok-test.ensures)) c.in_err-plan_floor-2.ensures)

pub returns : goal.returns
returns c = two_told _ _ _ (sym c.in_ok-test.ensures) c.in_ok-plan_floor.ensures c.in_ok-plan_floor-2.ensures
