-- `near::mask::of_places` meets its contract: each turn sets the bit of one more place.
-- Assumes nothing.
use Rattle.near.proofs.mask.Laws.{mask_begun, mask_turned}
use Rattle.near.proofs.mask.of_places.Goals as goal

pub loop-place-init : goal.loop-place-init
loop-place-init c = mask_begun _

pub loop-place-preserved : goal.loop-place-preserved
loop-place-preserved c =
    mask_turned _ c.loop-place.mask c.loop-place.place-index c.loop-place.invariant c.loop-place-test.true (c.requires c.loop-place.place-index c.loop-place-test.true)
