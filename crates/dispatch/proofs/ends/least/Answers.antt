-- `dispatch::ends::least` meets its contract: with all ends moved the plan costs the least of all plans to them. Assumes nothing.
use mathlib.Core.Path.{◌∙◌}
use native.Mathlib.Omega.{arith}
use Rattle.workfunction.proofs.Plan.{plan_facts}
use Rattle.dispatch.proofs.ends.Laws.{movable_few, movable_long, movable_least}
use Rattle.dispatch.proofs.ends.least.Goals as goal

pub cost-requires : goal.cost-requires
cost-requires c = let few = movable_few c.move_all.ensures.there in
    let long = movable_long c.move_all.ensures.there in
    record {
      few = omega arith;
      planned = omega arith;
      costed = c.move_all.ensures.there.kept.table.costed;
      below = rw c.stops.ensures (plan_facts _ _ _ c.move_all.ensures.there.kept.certified.planned).below;
    }

pub returns : goal.returns
returns c = ((rw c.stops.ensures at c.cost.ensures) ∙ movable_least c.move_all.ensures.there, c.move_all.ensures.there.kept.table.costed)
