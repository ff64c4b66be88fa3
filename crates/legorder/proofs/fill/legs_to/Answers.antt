-- `legorder::fill::legs_to` meets its contract: the loop writes the places of the legs to v one behind another.
-- Assumes nothing.
use Prim.Native.Nat.{◌+◌, ◌≤◌}
use mathlib.Core.Path.{◌≡◌, refl, ◌∙◌}
use lib.ListN.{length}
use native.Mathlib.Nat.{le_of_lt}
use Rattle.base.proofs.Lists.{entries_begun, entries_turned}
use Rattle.road.specs.Table.{leg_count}
use Rattle.road.proofs.Order.{legs_counted}
use Rattle.legorder.proofs.fill.legs_to.Goals as goal
use Rattle.legorder.proofs.fill.legs_to.Goals.{After-legs-from}

-- the legs before those to v
counted : (c : After-legs-from) → c.legs-from.result ≡ leg_count c.args.v
counted c = c.legs-from.ensures ∙ legs_counted _ (le_of_lt c.requires.0)

-- there is room for those to v
firsts_fit : (c : After-legs-from)
    → c.legs-from.result + c.args.v ≤ length c.args.firsts.now
firsts_fit c = rw (counted c) c.requires.1.0

seconds_fit : (c : After-legs-from)
    → c.legs-from.result + c.args.v ≤ length c.args.seconds.now
seconds_fit c = rw (counted c) c.requires.1.1

pub loop-u-init : goal.loop-u-init
loop-u-init c = (entries_begun _ _ _ _ (firsts_fit (goal.at.loop-u-init c).After-legs-from), entries_begun _ _ _ _ (seconds_fit (goal.at.loop-u-init c).After-legs-from))

pub loop-u-preserved : goal.loop-u-preserved
loop-u-preserved c = (
  entries_turned _ _ _ _ (firsts_fit (goal.at.loop-u-preserved c).After-legs-from) _ _ _ c.loop-u.invariant.0 c.loop-u-test.true refl,
  entries_turned _ _ _ _ (seconds_fit (goal.at.loop-u-preserved c).After-legs-from) _ _ _ c.loop-u.invariant.1 c.loop-u-test.true refl,
)
