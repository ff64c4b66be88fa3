-- `dispatch::home::home` meets its contract: at first each stand is followed by itself, and such a plan may have its ends moved to the
-- starts. Assumes nothing.
use mathlib.Core.Path.{refl}
use native.Mathlib.Nat.{le_trans, not-suc-le-zero}
use native.Mathlib.Omega.{arith}
use Rattle.workfunction.proofs.Sums.{entry_in}
use Rattle.dispatch.proofs.ends.Laws.{own_movable}
use Rattle.dispatch.proofs.home.home.Goals as goal

pub fill-requires : goal.fill-requires
fill-requires c = record {
  aligned = refl;
  few = omega (arith, c.requires.asked.cranes);
  stood = λ i h. le_trans (c.requires.asked.day.started.placed (entry_in _ i h)) c.requires.legible.few;
  called = λ i h. absurd (not-suc-le-zero h);
  costed = c.requires.costed;
}

pub least-requires : goal.least-requires
least-requires c = record {
  places = c.requires.places;
  stands = c.args.stands.now;
  movable = own_movable _ _ c.requires.legible c.requires.asked c.own-plan.ensures c.zeros-weights.ensures c.fill.ensures;
  ending = c.requires.ending;
}
