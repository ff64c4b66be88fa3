-- A plan with weights that vouch costs exactly w of the stands: some movement to the stands costs that, and none less. Assumes
-- nothing.
use Prim.Native.Nat.{ℕ, ◌<◌, ◌≤◌}
use mathlib.Core.Bool.{true}
use mathlib.Core.List.{List}
use mathlib.Core.Path.{◌≡◌, sym, ap}
use lib.IntN.{ℤ}
use lib.ListN.{length, get_or}
use native.Mathlib.Nat.{le_antisymm, le_trans, le_of_eq}
use Rattle.base.specs.Metric.{Metric}
use Rattle.workfunction.specs.Position.{Position}
use Rattle.workfunction.specs.Movement.{Instance, work}
use Rattle.workfunction.specs.Plan.{plan_rule, vouch_rule, plan_cost, stops, place, leg_cost}
use Rattle.workfunction.proofs.Lower.{movement_above}
use Rattle.workfunction.proofs.Movement.{work_least}
use Rattle.workfunction.proofs.Plan.{Plan, plan_facts, Vouched, vouch_facts, plan_least}
use Rattle.workfunction.proofs.Stops.{place-call, place_stand}
use Rattle.workfunction.proofs.Upper.{movement_to}

module _ {n : ℕ} {d : ℕ → ℕ → ℕ} (laws : Metric n d) {starts calls : List ℕ} (day : Instance n starts calls) {stands : List ℕ}
    (standing : Position n (length starts) stands) where
  -- the leg to a call, and to a stand
  pub leg-call : (p b : ℕ) → length starts ≤ b → leg_cost d starts calls stands p b ≡ d (place starts calls p) (place starts calls b)
  unfolding leg_cost
  leg-call p b call = ap (d (place starts calls p)) (place-call starts stands calls b standing.cranes call)

  pub leg_stand : (p e : ℕ) → e < length starts → leg_cost d starts calls stands p e ≡ d (place starts calls p) (get_or stands e 0)
  unfolding leg_cost
  leg_stand p e end = ap (d (place starts calls p)) (place_stand stands calls e (rw standing.cranes end))

  module _ {f : ℕ → ℕ} (plan : Plan (length starts) (stops starts calls) f) where
    -- some movement costs no more than a plan
    pub work_plan : work d n starts calls stands ≤ plan_cost (stops starts calls) (leg_cost d starts calls stands) f
    work_plan =
        let some = movement_to laws day plan (leg_cost d starts calls stands) (λ p b call low lt. le_of_eq (sym (leg-call p b call))) standing
        (λ p e lt end. le_of_eq (sym (leg_stand p e end)))
        in
        le_trans ((work_least d day stands).below some.0 some.1) some.2

    -- and none less than one with weights that vouch
    pub plan_work : {y : ℕ → ℕ} → Vouched (length starts) (stops starts calls) f (leg_cost d starts calls stands) y
        → plan_cost (stops starts calls) (leg_cost d starts calls stands) f ≡ work d n starts calls stands
    plan_work vouched =
        let least = work_least d day stands in
        let best = least.attained in
        let above = movement_above laws day standing plan vouched (λ p b call low lt. le_of_eq (leg-call p b call))
        (λ p e lt end. le_of_eq (leg_stand p e end)) best.1
        in
        le_antisymm (rw (← best.2) above) work_plan

-- ---- by the rules, as they are tested

module _ {n : ℕ} {d : ℕ → ℕ → ℕ} (laws : Metric n d) {starts calls : List ℕ} (day : Instance n starts calls) (f : ℕ → ℕ) (y : ℕ → ℤ)
    (plan : plan_rule (length starts) (stops starts calls) f ≡ true) where
  pub witness_work : {stands : List ℕ} → Position n (length starts) stands
      → vouch_rule (length starts) (stops starts calls) f (leg_cost d starts calls stands) y ≡ true
      → plan_cost (stops starts calls) (leg_cost d starts calls stands) f ≡ work d n starts calls stands
  witness_work standing vouched =
      let facts = plan_facts (length starts) (stops starts calls) f plan in
      plan_work laws day standing facts (vouch_facts facts _ y vouched)

-- among plans, whatever the legs cost
pub witness_plans : (k N : ℕ) (f g : ℕ → ℕ) (c : ℕ → ℕ → ℕ) (y : ℕ → ℤ) → plan_rule k N f ≡ true → vouch_rule k N f c y ≡ true
    → plan_rule k N g ≡ true → plan_cost N c f ≤ plan_cost N c g
witness_plans k N f g c y plan vouched other =
    let facts = plan_facts k N f plan in
    plan_least facts (vouch_facts facts c y vouched) (plan_facts k N g other)
