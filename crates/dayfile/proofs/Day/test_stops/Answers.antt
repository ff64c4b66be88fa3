-- `dayfile::Day::test_stops` meets its contract: the loop passes the stops whose place is below the number of places.
-- Assumes nothing.
use borrow.Author.Tests.{lt-ltb, le-ltb}
use lib.ListN.{length}
use Rattle.base.proofs.Tests.{begun, turned, ended, below_fails}
use Rattle.dayfile.proofs.Day.test_stops.Invariants.{rule}
use Rattle.dayfile.proofs.Day.test_stops.Goals as goal

pub loop-place-init : goal.loop-place-init
loop-place-init c = begun _ _

pub returns-then-places-from : goal.returns-then-places-from
returns-then-places-from c = rw (below_fails (rule c.args.places c.args.stops.now) (length c.args.stops.now) c.loop-place.place-index c.loop-place-test.true (rw c.from.ensures at (le-ltb _ _ c.if-places-from.true)))

pub loop-place-preserved : goal.loop-place-preserved
loop-place-preserved c = turned _ _ c.loop-place.place-index c.loop-place.invariant c.loop-place-test.true (rw c.from.ensures at (lt-ltb _ _ c.if-places-from.false))

pub returns : goal.returns
returns c = rw (ended _ _ c.loop-place.place-index c.loop-place.invariant c.loop-place-test.false)
