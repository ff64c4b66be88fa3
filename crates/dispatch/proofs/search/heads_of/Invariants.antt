-- `dispatch::search::heads_of` meets its contract: the loop fills the heads from the front. Assumes nothing.
use Prim.Native.Nat.{ℕ}
use mathlib.Core.List.{List}
use lib.IntN.{ℤ}
use lib.ListN.{replicate}
use Rattle.base.proofs.Lists.{Filled}
use Rattle.book.specs.Book.{follower, weight}
use Rattle.dispatch.specs.Legs.{plan_room, leg_at}
use Rattle.dispatch.specs.Search.{head_of}
use Rattle.dispatch.proofs.search.heads_of.Given as goal

-- the head of each stop
abbrev pub rule : List ℕ → List ℤ → List ℕ → ℕ → ℕ
rule plan weights costs p = head_of (weight weights (follower plan p)) (leg_at costs p (follower plan p))

abbrev pub invariant-loop-p : goal.invariant-loop-p
invariant-loop-p l = Filled (rule l.plan l.weights l.costs) (replicate plan_room 0) l.new l.heads l.p
