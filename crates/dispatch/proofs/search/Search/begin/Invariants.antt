-- `dispatch::search::Search::begin` meets its contract: the loop fills the lists from the front, and then the new call is settled.
-- Assumes nothing.
use Prim.Native.Nat.{ℕ, ◌+◌}
use mathlib.Core.List.{List}
use Rattle.base.proofs.Lists.{Filled}
use Rattle.dispatch.specs.Legs.{plan_room, leg_at}
use Rattle.dispatch.specs.Search.{net_base}
use Rattle.dispatch.proofs.search.Search.begin.Given as goal

-- the first entries are filled
pub record Beginning (new : ℕ) (row : ℕ → ℕ) (totals₀ parents₀ ranks₀ totals parents ranks : List ℕ) (p : ℕ) : Type 0 where
  pub totalled : Filled (λ v. net_base + row v) totals₀ (new + 1) totals p
  pub parented : Filled (λ v. new) parents₀ (new + 1) parents p
  pub ranked : Filled (λ v. plan_room) ranks₀ (new + 1) ranks p

abbrev pub invariant-loop-p : goal.invariant-loop-p
invariant-loop-p l = Beginning l.new (λ v. leg_at l.costs v l.new) l.initial.self.totals l.initial.self.parents l.initial.self.ranks l.self.totals l.self.parents l.self.ranks l.p
