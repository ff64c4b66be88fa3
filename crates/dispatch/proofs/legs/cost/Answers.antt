-- `dispatch::legs::cost` meets its contract: it reads the stop's column in the follower's row. Assumes nothing.
use Rattle.dispatch.specs.Legs.{cell, leg_at}
use Rattle.dispatch.proofs.legs.cost.Goals as goal

pub returns : goal.returns
unfolding cell leg_at
returns c = cc
