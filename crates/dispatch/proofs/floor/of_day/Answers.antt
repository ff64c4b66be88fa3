-- `dispatch::floor::of_day` meets its contract: at first each start is followed by itself, and with all calls taken in the plan costs the
-- least. Assumes nothing.
use Prim.Native.Nat.{ℕ, ◌<◌}
use mathlib.Core.List.{[]}
use mathlib.Core.Path.{refl, ◌∙◌}
use borrow.Author.Rules.{rules}
use lib.ListN.{length, get_or}
use native.Mathlib.Nat.{le_trans, not-suc-le-zero}
use native.Mathlib.Omega.{arith}
use Rattle.road.specs.Table.{metres_of, entry}
use Rattle.workfunction.proofs.Movement.{instance_first}
use Rattle.workfunction.proofs.Plan.{plan_facts}
use Rattle.workfunction.proofs.Sums.{entry_in}
use Rattle.dispatch.specs.Insertion.{Asked, Movable}
use Rattle.dispatch.proofs.ends.Laws.{own_movable, movable_few, movable_long, movable_least}
use Rattle.dispatch.proofs.floor.of_day.Goals as goal
use Rattle.dispatch.proofs.floor.of_day.Goals.{After-fill, After-take_all, Start}

-- every call is at a place of the table
called : (c : Start) → (i : ℕ) → i < length c.args.instance.calls.now → get_or c.args.instance.calls.now i 0 < c.requires.places
called c i h = c.requires.asked.day.called (entry_in _ i h)

-- the plan without calls
own : (c : After-fill) → Movable c.requires.places (entry (metres_of c.args.instance.table.now)) c.args.instance.starts.now [] c.args.instance.starts.now
    c.own-plan.result c.zeros-weights.result c.fill.new.costs
own c =
    let uncalled_here : Asked c.requires.places c.args.instance.starts.now [] = record { day = instance_first 0 c.requires.asked.day; cranes = c.requires.asked.cranes; few = search rules }
    in
    own_movable _ _ c.requires.legible (uncalled_here) c.own-plan.ensures c.zeros-weights.ensures c.fill.ensures

-- the plan with all calls
taken : (c : After-take_all) → Movable c.requires.places (entry (metres_of c.args.instance.table.now)) c.args.instance.starts.now c.args.instance.calls.now c.args.instance.starts.now
    c.take_all.new.matching.plan c.take_all.new.matching.weights c.take_all.new.matching.costs
taken c =
    let called_here : (i : ℕ) → i < length c.args.instance.calls.now → get_or c.args.instance.calls.now i 0 < c.requires.places = λ i h. c.requires.asked.day.called (entry_in _ i h)
    in
    let uncalled_here : Asked c.requires.places c.args.instance.starts.now [] = record { day = instance_first 0 c.requires.asked.day; cranes = c.requires.asked.cranes; few = search rules }
    in
    let own_here : Movable c.requires.places (entry (metres_of c.args.instance.table.now)) c.args.instance.starts.now [] c.args.instance.starts.now
    c.own-plan.result c.zeros-weights.result c.fill.new.costs = own_movable _ _ c.requires.legible (uncalled_here) c.own-plan.ensures c.zeros-weights.ensures c.fill.ensures
    in
    c.take_all.ensures.there c.requires.places c.args.instance.starts.now (own_here) (called_here)

pub fill-requires : goal.fill-requires
fill-requires c = record {
  aligned = refl;
  few = omega (arith, c.requires.asked.cranes);
  stood = λ i h. le_trans (c.requires.asked.day.started.placed (entry_in _ i h)) c.requires.legible.few;
  called = λ i h. absurd (not-suc-le-zero h);
  costed = c.zeros-costs.ensures;
}

pub take_all-requires : goal.take_all-requires
take_all-requires c = record { places = c.requires.places; stands = c.args.instance.starts.now; movable = own (goal.at.take_all-requires c).After-fill; called = called (goal.at.take_all-requires c).Start; few = c.requires.asked.few }

pub cost-requires : goal.cost-requires
cost-requires c = let m = taken (goal.at.cost-requires c).After-take_all in
    let few = movable_few m in
    let long = movable_long m in
    record {
      few = omega arith;
      planned = omega arith;
      costed = m.kept.table.costed;
      below = rw c.stops.ensures (plan_facts _ _ _ m.kept.certified.planned).below;
    }

pub returns : goal.returns
returns c = (rw c.stops.ensures at c.cost.ensures) ∙ movable_least (taken (goal.at.returns c).After-take_all)
