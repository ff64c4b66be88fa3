-- `dispatch::search::Search::settle` meets its contract: the row lent to `relax` holds the legs to the stop's follower, as far as that
-- follower reaches. Assumes nothing.
use Prim.Native.Nat.{ℕ, ◌<◌}
use mathlib.Core.List.{List}
use mathlib.Core.Logic.{◌⊎◌, inl, inr}
use mathlib.Core.Path.{◌≡◌, ap}
use lib.ListN.{length}
use native.Mathlib.Nat.{le_of_lt}
use native.Mathlib.Omega.{arith}
use Rattle.base.specs.Lists.{up_to}
use Rattle.base.proofs.Lists.{length-up_to, get_or-up_to}
use Rattle.dispatch.specs.Legs.{leg_at}
use Rattle.dispatch.specs.Search.{at, Unbettered, Bettered, Relaxed}
use Rattle.dispatch.proofs.search.Laws.{reach_most}
use Rattle.dispatch.proofs.search.Search.settle.Goals as goal

module _ {limit net from : ℕ} {total parent total' parent' : ℕ → ℕ} where
  same_row : (row row' : ℕ → ℕ) → ((p : ℕ) → p < limit → row p ≡ row' p) → Relaxed limit net from row total parent total' parent'
      → Relaxed limit net from row' total parent total' parent'
  same_row row row' same r = record { each = λ p. go p (r.each p) }
    where
      go : (p : ℕ) → Unbettered limit net row total parent total' parent' p ⊎ Bettered limit net from row total total' parent' p
          → Unbettered limit net row' total parent total' parent' p ⊎ Bettered limit net from row' total total' parent' p
      go p (inl h) = inl (record { same = h.same; parented = h.parented; least = λ lt. rw (← same p lt) (h.least lt) })
      go p (inr h) = inr (record {
        below = h.below;
        less = rw (← same p h.below) h.less;
        taken = rw (← same p h.below) h.taken;
        parented = h.parented;
      })

row_worked : {row : List ℕ} (costs : List ℕ) (b l : ℕ) {m net net' from : ℕ} {total parent total' parent' : ℕ → ℕ}
    → row ≡ up_to l (λ p. leg_at costs p b) → l ≡ m → net ≡ net' → Relaxed (length row) net from (at row) total parent total' parent'
    → Relaxed m net' from (λ p. leg_at costs p b) total parent total' parent'
row_worked {row} costs b l same e f r =
    let long : length row ≡ l = rw same (length-up_to l _) in
    rw (← e, ← f) (same_row (at row) (λ p. leg_at costs p b) (λ p lt. rw same (get_or-up_to l _ p 0 lt)) (rw long at r))

pub row_to-row-requires : goal.row_to-row-requires
row_to-row-requires c = (
  omega (arith, c.limit.ensures, reach_most c.args.cranes c.args.new _ (le_of_lt c.requires.follows), c.requires.few),
  (omega (arith, c.requires.follows, c.requires.few), c.requires.costed),
)

pub relax-requires : goal.relax-requires
relax-requires c = let long = simp length-up_to at (ap length c.row_to-row.ensures) in
    let most = reach_most c.args.cranes c.args.new _ (le_of_lt c.requires.follows) in
    (omega (arith, c.requires.few, c.limit.ensures), omega arith)

pub returns : goal.returns
returns c = (c.relax.ensures.0, row_worked _ _ _ c.row_to-row.ensures c.limit.ensures (rw c.cost.ensures) c.relax.ensures.1)
