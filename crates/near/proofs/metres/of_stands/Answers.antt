-- `near::metres::of_stands` meets its contract: the loop looks up the metres of one crane after another.
-- Assumes nothing.
use mathlib.Core.Path.{◌∙◌}
use Rattle.base.proofs.Lists.{fill_begun, fill_turned, fill_padded}
use Rattle.road.proofs.Table.{entry_in}
use Rattle.dayfile.specs.Day.{most_cranes}
use Rattle.workfunction.specs.Choice.{drive}
use Rattle.near.proofs.metres.of_stands.Goals as goal

pub loop-s-init : goal.loop-s-init
loop-s-init c = fill_begun _ _ _

pub loop-s-preserved : goal.loop-s-preserved
unfolding drive
loop-s-preserved c = fill_turned _ _ _ c.loop-s.metres c.loop-s.s _ c.requires.few c.loop-s.invariant c.loop-s-test.true
    (c.metres.ensures ∙ rw (c.from-in-loop-s.ensures, c.from.ensures) (entry_in _ _ _ (c.requires.standing c.loop-s.s c.loop-s-test.true) c.requires.placed))

pub returns : goal.returns
returns c = fill_padded _ most_cranes _ 0 c.loop-s.metres c.loop-s.s c.loop-s.invariant c.loop-s-test.false
