-- `dispatch::ends::move_all` meets its contract: after each turn the ends so far are at their places, and the others where they were.
-- Assumes nothing.
use Prim.Native.Nat.{◌<◌}
use lib.ListN.{length}
use native.Mathlib.Omega.{arith}
use Rattle.dispatch.proofs.ends.Laws.{moving_begun, moving_on, moving_turned, moving_ended}
use Rattle.dispatch.proofs.ends.move_all.Goals as goal
use Rattle.dispatch.proofs.ends.move_all.Goals.{In-loop-end}

-- the end that is next
next : (c : In-loop-end) → c.loop-end.end < length c.args.instance.starts.now
next c = omega (arith, c.requires.ending.cranes, c.loop-end-test.true)

pub loop-end-init : goal.loop-end-init
loop-end-init c = moving_begun c.requires

pub move_end-requires : goal.move_end-requires
move_end-requires c = let m = c.loop-end.invariant in let lt = next (goal.at.move_end-requires c).In-loop-end in
    record { places = m.places; stands = m.stands; movable = m.movable; end = lt; on = moving_on m lt }

pub loop-end-preserved : goal.loop-end-preserved
loop-end-preserved c = moving_turned c.loop-end.invariant (next (goal.at.loop-end-preserved c).In-loop-end) c.move_end.ensures

pub returns : goal.returns
returns c = moving_ended c.loop-end.invariant (omega (arith, c.requires.ending.cranes, c.loop-end-test.false))
