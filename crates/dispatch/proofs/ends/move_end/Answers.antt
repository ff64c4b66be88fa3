-- `dispatch::ends::move_end` meets its contract: the call by which the end is moved has room, is taken in for the end, and goes again.
-- Assumes nothing.
use Prim.Native.Nat.{◌<◌}
use native.Mathlib.Omega.{arith}
use Rattle.workfunction.specs.Plan.{stops}
use Rattle.dispatch.specs.Legs.{plan_room}
use Rattle.dispatch.proofs.Taken.{kept_witnessed}
use Rattle.dispatch.proofs.ends.Laws.{movable_few, movable_long, sent_taken, end_moved}
use Rattle.dispatch.proofs.ends.move_end.Goals as goal
use Rattle.dispatch.proofs.ends.move_end.Goals.{Start}

-- there is room for the call
few : (c : Start) → stops c.args.instance.starts.now c.args.instance.calls.now < plan_room
few c = movable_few c.requires.movable

pub insert-requires : goal.insert-requires
insert-requires c = let added = rw c.stops-stops.ensures at c.extend.ensures in
    record {
      crane = c.requires.movable.kept.asked.day.crane;
      cranes = c.requires.movable.kept.asked.cranes;
      stops = omega arith;
      ends = λ e h. c.requires.end;
      plan_long = omega (arith, movable_long c.requires.movable);
      weights_long = omega (arith, few (goal.at.insert-requires c).Start, c.requires.movable.weights_long);
      costed = c.extend.ensures.costed;
      witnessed = rw c.stops-stops.ensures (kept_witnessed c.requires.movable.legible c.requires.movable.kept (few (goal.at.insert-requires c).Start) (movable_long c.requires.movable) c.requires.on added);
    }

pub returns : goal.returns
returns c = record {
  there = λ n stands movable on.
      end_moved movable on (rw c.stops-stops.ensures at c.extend.ensures) c.insert.new.plan c.insert.new.weights
      (sent_taken c.insert.ensures.chosen (rw c.stops-stops.ensures at c.insert.ensures.taken)) c.put.ensures (rw c.stops-stops.ensures at c.replace.ensures)
      (omega (arith, c.insert.auto, movable.plan_long)) (omega (arith, c.insert.auto, movable.weights_long));
}
