-- `road::Road::test` meets its contract: 3 and 4 are handed up, and where neither applies 8 decides.
-- Assumes nothing.
use mathlib.Core.Path.{sym}
use Rattle.base.proofs.Numbers.{then_zero}
use Rattle.road.proofs.Table.{run_held}
use Rattle.road.proofs.Road.test.Goals as goal

pub test-requires : goal.test-requires
test-requires c = run_held _ _ (sym (then_zero _ _ (sym c.in_ok-test_legs.ensures)).0)
