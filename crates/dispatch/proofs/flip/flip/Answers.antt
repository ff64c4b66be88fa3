-- `dispatch::flip::flip` meets its contract: the loop walks along the parents and swaps, to ever lower ranks, until it comes to
-- the new call, which alone has the rank 0. Assumes nothing.
use Prim.Native.Nat.{◌<◌}
use Rattle.workfunction.specs.NetCost.{Chains}
use Rattle.dispatch.specs.Search.{at}
use Rattle.dispatch.proofs.flip.flip.Invariants.{walk_on, walk_turned}
use Rattle.dispatch.proofs.flip.flip.Goals as goal
use Rattle.dispatch.proofs.flip.flip.Goals.{In-loop-here}

chains : (c : In-loop-here) → Chains c.args.new (at c.args.search.now.parents) (at c.args.search.now.ranks)
chains c = c.requires.chains

below_new : (c : In-loop-here) → c.loop-here.here < c.args.new
below_new c = walk_on _ _ _ _ _ (chains c) c.loop-here.invariant c.loop-here-test.true

pub loop-here-preserved : goal.loop-here-preserved
loop-here-preserved c = walk_turned _ _ _ _ _ (chains (goal.at.loop-here-preserved c).In-loop-here) c.loop-here.invariant (below_new (goal.at.loop-here-preserved c).In-loop-here) c.requires.planned
