-- `book::plan::test_followers` meets its contract: the loop passes the stops whose follower is in range and may follow them.
-- Assumes nothing.
use lib.ListN.{length}
use Rattle.base.proofs.Numbers.{up, stops_below}
use Rattle.workfunction.specs.Plan.{followers_rule}
use Rattle.book.proofs.plan.test_followers.Invariants.{rule}
use Rattle.book.proofs.plan.test_followers.Goals as goal

pub returns-in_err-test_follower : goal.returns-in_err-test_follower
unfolding followers_rule
returns-in_err-test_follower c = up _ _ _ c.from_residual.ensures.1
    (stops_below _ (length c.args.plan.now) c.loop-p.p 9 (rule c.args.cranes c.args.plan.now) (rw c.from.ensures at c.in_err-test_follower.ensures) c.loop-p-test.true)
