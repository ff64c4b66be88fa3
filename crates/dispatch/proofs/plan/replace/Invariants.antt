-- `dispatch::plan::replace` meets its contract: the loop fills the front from its first entry on, and reads what it has not filled yet.
-- Assumes nothing.
use lib.ListN.{length}
use Rattle.base.proofs.Lists.{Filled}
use Rattle.book.specs.Book.{follower}
use Rattle.dispatch.specs.Insertion.{instead}
use Rattle.dispatch.proofs.plan.replace.Given as goal

abbrev pub invariant-loop-b : goal.invariant-loop-b
invariant-loop-b l = Filled (λ j. instead l.old l.new (follower l.initial.b-items j)) l.initial.b-items (length l.initial.b-items) l.b-items l.b-index
