-- `dispatch::weights::renew` meets its contract: each follower follows one stop, so that no weight is renewed twice.
-- Assumes nothing.
use Prim.Native.Nat.{ℕ, ◌+◌, ◌≤◌}
use mathlib.Core.Path.{◌≡◌}
use lib.IntN.{ℤ, pos, neg_ℤ, ◌-ℤ◌, +ℤ_idl}
use lib.ListN.{set}
use mir.Syntax.{w64}
use mir.Val.{SFits, to_z, of_z}
use mir.ValLaws.{to_z-of_z}
use native.Mathlib.Omega.{arith}
use Rattle.base.proofs.Signed.{neg_difference, difference_fits}
use Rattle.road.specs.Table.{most_metres}
use Rattle.book.specs.Book.{follower}
use Rattle.dispatch.specs.Legs.{leg_at}
use Rattle.dispatch.specs.Search.{at, net_base, net_of, Totalled}
use Rattle.dispatch.proofs.weights.renew.Invariants.{Renewing, renew_turned, renew_ended}
use Rattle.dispatch.proofs.weights.renew.Goals as goal
use Rattle.dispatch.proofs.weights.renew.Goals.{After-net_cost-net, In-loop-p}

-- the opposite of a net cost, as the machine makes it and reads it back
module _ (net : ℕ) (h : net ≤ net_base + most_metres) {z : ℤ} (e : z ≡ pos net -ℤ pos net_base) where
  fits : SFits w64 (neg_ℤ (pos net -ℤ pos net_base))
  fits = rw (neg_difference (pos net) (pos net_base)) (difference_fits net_base net (omega arith) (omega arith))

  opposite : pos 0 -ℤ to_z w64 (of_z w64 z) ≡ neg_ℤ (pos net -ℤ pos net_base)
  opposite =
      let near = difference_fits net net_base (omega arith) (omega arith) in
      rw (e, to_z-of_z w64 (pos net -ℤ pos net_base) near) (+ℤ_idl (neg_ℤ (pos net -ℤ pos net_base)))

  opposite_fits : SFits w64 (pos 0 -ℤ to_z w64 (of_z w64 z))
  opposite_fits = rw opposite fits

  opposite_read : to_z w64 (of_z w64 (pos 0 -ℤ to_z w64 (of_z w64 z))) ≡ neg_ℤ (pos net -ℤ pos net_base)
  opposite_read = rw opposite (to_z-of_z w64 (neg_ℤ (pos net -ℤ pos net_base)) fits)

-- what is known of p's total
totalled : (c : In-loop-p) → Totalled c.args.new (follower c.args.plan.now) (leg_at c.args.costs.now) (at c.args.totals.now)
totalled c = c.requires.totalled

-- its net cost
abbrev net-of : In-loop-p → ℕ
net-of c =
    net_of (follower c.args.plan.now) (leg_at c.args.costs.now) (at c.args.totals.now) c.loop-p.p

net_low : (c : In-loop-p) → net-of c ≤ net_base + most_metres
net_low c = omega (arith, (totalled c).most c.loop-p.p c.loop-p-test.true)

-- the call's result is that
called : (c : After-net_cost-net) → c.net_cost-net.result ≡ pos (net_of (follower c.args.plan.now) (leg_at c.args.costs.now) (at c.args.totals.now) c.loop-p.p) -ℤ pos net_base
called c = rw (← c.cost.ensures) c.net_cost-net.ensures

-- a turn of the loop
turned : (c : After-net_cost-net) → c.net_cost-net.result ≡ pos (net_of (follower c.args.plan.now) (leg_at c.args.costs.now) (at c.args.totals.now) c.loop-p.p) -ℤ pos net_base
    → net_of (follower c.args.plan.now) (leg_at c.args.costs.now) (at c.args.totals.now) c.loop-p.p ≤ net_base + most_metres
    → Renewing c.args.new (follower c.args.plan.now) (net_of (follower c.args.plan.now) (leg_at c.args.costs.now) (at c.args.totals.now)) c.args.weights.now
    (set c.loop-p.weights (follower c.args.plan.now c.loop-p.p) (to_z w64 (of_z w64 (pos 0 -ℤ to_z w64 (of_z w64 c.net_cost-net.result))))) (c.loop-p.p + 1)
turned c called low = renew_turned _ _ _ _ c.requires.weighed c.loop-p.invariant c.requires.matched c.loop-p-test.true (opposite_read _ low called)

pub loop-p-preserved : goal.loop-p-preserved
loop-p-preserved c = turned (goal.at.loop-p-preserved c).After-net_cost-net (called (goal.at.loop-p-preserved c).After-net_cost-net)
    (net_low (goal.at.loop-p-preserved c).In-loop-p)

pub returns-2 : goal.returns-2
returns-2 c = renew_ended _ _ _ _ c.requires.weighed (turned (goal.at.returns-2 c).After-net_cost-net (called (goal.at.returns-2 c).After-net_cost-net)
    (net_low (goal.at.returns-2 c).In-loop-p)) (omega arith)
