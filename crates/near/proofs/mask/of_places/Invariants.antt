-- `near::mask::of_places` meets its contract: each turn sets the bit of one more place.
-- Assumes nothing.
use Rattle.near.proofs.mask.Laws.{Masked}
use Rattle.near.proofs.mask.of_places.Given as goal

abbrev pub invariant-loop-place : goal.invariant-loop-place
invariant-loop-place l = Masked l.places l.mask l.place-index
