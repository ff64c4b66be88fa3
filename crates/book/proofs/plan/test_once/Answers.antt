-- `book::plan::test_once` meets its contract: the loop passes the calls and stands that follow exactly one stop.
-- Assumes nothing.
use borrow.Author.Tests.{ne_eqb}
use lib.ListN.{length}
use Rattle.base.proofs.Tests.{below_fails}
use Rattle.workfunction.specs.Plan.{once_rule}
use Rattle.book.proofs.plan.test_once.Invariants.{rule}
use Rattle.book.proofs.plan.test_once.Goals as goal

pub returns-then-count-ne1 : goal.returns-then-count-ne1
unfolding once_rule
returns-then-count-ne1 c = let fails = ne_eqb _ 1 (rw c.count.ensures at c.if-count-ne1.true) in
    rw (below_fails (rule c.args.plan.now) (length c.args.plan.now) c.loop-b.b c.loop-b-test.true fails)
