-- `rough::bounds::test` meets its contract: 15 unless no lower figure exceeds its upper. Assumes nothing.
use mathlib.Core.Path.{◌∙◌}
use Rattle.rough.proofs.bounds.Laws.{bounds_decided}
use Rattle.rough.proofs.bounds.test.Goals as goal

pub returns-then-ordered : goal.returns-then-ordered
returns-then-ordered c = rw (bounds_decided _ _ _ c.ordered.ensures ∙ c.if-ordered.true)

pub returns-else-ordered : goal.returns-else-ordered
returns-else-ordered c = rw (bounds_decided _ _ _ c.ordered.ensures ∙ c.if-ordered.false)
