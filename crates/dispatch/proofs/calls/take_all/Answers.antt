-- `dispatch::calls::take_all` meets its contract: after each turn the calls so far are in the plan. Assumes nothing.
use lib.Seq.{length-take-le}
use native.Mathlib.Omega.{arith}
use Rattle.dispatch.proofs.calls.Laws.{taking_turned, taking_ended}
use Rattle.dispatch.proofs.calls.take_all.Goals as goal

pub take-requires : goal.take-requires
take-requires c = record {
  places = c.requires.places;
  stands = c.requires.stands;
  movable = c.loop-i.invariant _ _ c.requires.movable c.requires.called;
  on = c.requires.called _ c.loop-i-test.true;
  space = omega (arith, length-take-le c.loop-i.i c.args.instance.calls.now (omega arith), c.requires.few);
}

pub loop-i-preserved : goal.loop-i-preserved
loop-i-preserved c = λ n stands movable called.
    taking_turned _ _ (c.loop-i.invariant n stands movable called) c.requires.few c.loop-i-test.true (called c.loop-i.i c.loop-i-test.true) c.take.ensures

pub returns : goal.returns
returns c = record { there = λ n stands movable called. taking_ended _ _ (c.loop-i.invariant n stands movable called) c.loop-i-test.false }
