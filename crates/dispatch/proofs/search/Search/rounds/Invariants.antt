-- `dispatch::search::Search::rounds` meets its contract: each round settles an open stop of least key, which keeps the invariant.
-- Assumes nothing.
use Prim.Native.Nat.{ℕ, ◌+◌, ◌-◌}
use mathlib.Core.List.{List}
use Rattle.book.specs.Book.{follower}
use Rattle.dispatch.specs.Legs.{leg_at}
use Rattle.dispatch.specs.Search.{at}
use Rattle.dispatch.proofs.search.Laws.{Listed, Settling}
use Rattle.dispatch.proofs.search.Search.rounds.Given as goal

-- the invariant
pub record Rounding (k N : ℕ) (plan heads costs stops totals parents ranks : List ℕ) (i : ℕ) : Type 0 where
  pub listed : Listed N (N + 1 - i) (at stops) (at ranks)
  pub settling : Settling k N (follower plan) (leg_at costs) (at heads) i (at totals) (at parents) (at ranks)

abbrev pub invariant-loop-rank : goal.invariant-loop-rank
invariant-loop-rank l = Rounding l.cranes l.new l.plan l.heads l.costs l.stops l.self.totals l.self.parents l.self.ranks l.rank
