-- `dispatch::calls::take` meets its contract: there is room for the call, and the end that follows it is the least one. Assumes nothing.
use native.Mathlib.Omega.{arith}
use Rattle.dispatch.proofs.Taken.{kept_witnessed}
use Rattle.dispatch.proofs.ends.Laws.{movable_few, movable_long}
use Rattle.dispatch.proofs.calls.Laws.{call_taken}
use Rattle.dispatch.proofs.calls.take.Goals as goal

pub insert-requires : goal.insert-requires
insert-requires c = let added = rw c.stops-new.ensures at c.extend.ensures in
    record {
      crane = c.requires.movable.kept.asked.day.crane;
      cranes = c.requires.movable.kept.asked.cranes;
      stops = omega arith;
      ends = λ e h. h;
      plan_long = omega (arith, movable_long c.requires.movable);
      weights_long = omega (arith, movable_few c.requires.movable, c.requires.movable.weights_long);
      costed = c.extend.ensures.costed;
      witnessed = rw c.stops-new.ensures (kept_witnessed c.requires.movable.legible c.requires.movable.kept (movable_few c.requires.movable) (movable_long c.requires.movable) c.requires.on added);
    }

pub returns : goal.returns
returns c = record {
  there = λ n stands movable on space.
      call_taken movable on (rw c.stops-new.ensures at c.extend.ensures) c.insert.new.plan c.insert.new.weights (rw c.stops-new.ensures at c.insert.ensures.taken)
      (rw c.stops-new.ensures at c.insert.ensures.chosen) space (omega (arith, c.insert.auto, movable.plan_long)) (omega (arith, c.insert.auto, movable.weights_long));
}
