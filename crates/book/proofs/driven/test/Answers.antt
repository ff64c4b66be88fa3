-- `book::driven::test` meets its contract: the loop passes the cranes whose metres are within the most.
-- Assumes nothing.
use borrow.Author.Tests.{lt-leb}
use lib.ListN.{length}
use Rattle.base.proofs.Tests.{below_fails}
use Rattle.book.proofs.driven.test.Invariants.{rule}
use Rattle.book.proofs.driven.test.Goals as goal

pub returns-then-most-metres : goal.returns-then-most-metres
returns-then-most-metres c = rw (below_fails (rule c.args.most c.args.driven.now) (length c.args.driven.now) c.loop-metres.metres-index c.loop-metres-test.true (lt-leb _ _ c.if-most-metres.true))
