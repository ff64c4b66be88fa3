-- `dispatch::nets::lower` meets its contract: the loop fills the list from the front. Assumes nothing.
use Prim.Native.Nat.{ℕ, ◌+◌, ◌≤◌}
use mathlib.Core.Path.{◌≡◌}
use lib.IntN.{ℤ, pos, ◌-ℤ◌}
use mir.Syntax.{w64}
use mir.Val.{to_z, of_z}
use mir.ValLaws.{to_z-of_z}
use native.Mathlib.Omega.{arith}
use Rattle.base.proofs.Lists.{fill_begun, fill_turned}
use Rattle.base.proofs.Signed.{difference_fits}
use Rattle.road.specs.Table.{most_metres}
use Rattle.dispatch.specs.Search.{at, net_base}
use Rattle.dispatch.proofs.nets.lower.Goals as goal
use Rattle.dispatch.proofs.nets.lower.Goals.{In-loop-e}

-- a signed net cost is written as it is
written : (net : ℕ) (z : ℤ) → net ≤ net_base + most_metres → z ≡ pos net -ℤ pos net_base → to_z w64 (of_z w64 z) ≡ pos net -ℤ pos net_base
written net z h e = rw e (to_z-of_z w64 (pos net -ℤ pos net_base) (difference_fits net net_base (omega arith) (omega arith)))

-- the net cost of crane e is near the base
low : (c : In-loop-e) → at c.args.nets.now c.loop-e.e ≤ net_base + most_metres
low c = c.requires.low c.loop-e.e c.loop-e-test.true

pub loop-e-init : goal.loop-e-init
loop-e-init c = fill_begun _ _ _

pub loop-e-preserved : goal.loop-e-preserved
loop-e-preserved c = fill_turned _ _ _ _ _ _ c.requires.listed c.loop-e.invariant c.loop-e-test.true
    (written _ _ (low (goal.at.loop-e-preserved c).In-loop-e) c.lowered.ensures)
