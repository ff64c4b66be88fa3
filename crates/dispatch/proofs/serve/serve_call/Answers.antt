-- `dispatch::serve::serve_call` meets its contract: the day under way gives what each call requires, whatever its metres.
-- Assumes nothing.
use Prim.Native.Nat.{◌<◌}
use borrow.Author.Rules.{rules}
use lib.ListN.{length}
use native.Mathlib.Nat.{le_trans}
use native.Mathlib.Omega.{arith}
use Rattle.workfunction.specs.Plan.{stops}
use Rattle.book.specs.Book.{most_stops}
use Rattle.dispatch.proofs.Answered.{kept_few, call_answered, unmoved_set}
use Rattle.dispatch.proofs.Taken.{kept_witnessed, served_below}
use Rattle.dispatch.proofs.serve.serve_call.Given.{Over}
use Rattle.dispatch.proofs.serve.serve_call.Goals as goal
use Rattle.dispatch.proofs.serve.serve_call.Goals.{After-insert-crane, Start}

-- there is room for the call
room : {g : Over} (c : Start g) → stops c.args.instance.starts.now c.args.instance.calls.now < most_stops
room c = kept_few c.requires.kept c.requires.space

long : {g : Over} (c : Start g) → stops c.args.instance.starts.now c.args.instance.calls.now < length c.args.matching.now.plan
long c = le_trans (room c) c.requires.kept.plan_long

-- the crane sent is one of the cranes
sent : {g : Over} (c : After-insert-crane g) → c.insert-crane.result < length c.args.instance.starts.now
sent c = c.insert-crane.ensures.taken.end

pub insert-crane-requires : goal.insert-crane-requires
insert-crane-requires g c = let few = room (goal.at.insert-crane-requires g c).Start in
    let added = rw c.stops-new.ensures at c.extend.ensures in
    record {
      crane = c.requires.kept.asked.day.crane;
      cranes = c.requires.kept.asked.cranes;
      stops = omega arith;
      ends = c.requires.ends;
      plan_long = omega (arith, long (goal.at.insert-crane-requires g c).Start);
      weights_long = omega (arith, c.requires.kept.weights_long);
      costed = c.extend.ensures.costed;
      witnessed = rw (← c.stops-new.ensures) at (kept_witnessed c.requires.roads.legible c.requires.kept (omega arith) (long (goal.at.insert-crane-requires g c).Start) c.requires.on added);
    }

pub cost-requires : goal.cost-requires
cost-requires g c = let few = room (goal.at.cost-requires g c).Start in
    let added = rw c.stops-new.ensures at c.extend.ensures in
    let inserted = rw c.stops-new.ensures at c.insert-crane.ensures.taken in
    record {
      few = omega arith;
      planned = search rules;
      costed = c.put.ensures.costed;
      below = rw c.stops-new.ensures (served_below c.requires.roads.legible c.requires.kept (omega arith) (long (goal.at.cost-requires g c).Start) c.requires.on added inserted);
    }

pub returns-clause-served : goal.returns-clause-served
returns-clause-served g c = record {
  answered = λ n d roads kept asked.
      call_answered roads kept (room (goal.at.returns-clause-served g c).Start) (long (goal.at.returns-clause-served g c).Start) asked (rw c.stops-new.ensures at c.extend.ensures)
      c.insert-crane.new.plan c.insert-crane.new.weights c.put.new.costs
      (rw c.stops-new.ensures at c.insert-crane.ensures.taken) c.put.ensures
      (omega (arith, c.insert-crane.auto, c.requires.kept.plan_long)) (omega (arith, c.insert-crane.auto, c.requires.kept.weights_long))
      c.requires.space (rw c.stops-new.ensures at c.insert-crane.ensures.chosen) c.metres-metres.ensures (rw c.stops-new.ensures at c.cost.ensures);
  unmoved = unmoved_set c.insert-crane.result (omega (arith, sent (goal.at.returns-clause-served g c).After-insert-crane)) (rw c.stops-new.ensures at c.insert-crane.ensures.unmoved);
}
