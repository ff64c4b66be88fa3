-- `dispatch::legs::fill_column` meets its contract: after each turn the metres to the places so far are filled. Assumes nothing.
use Prim.Native.Nat.{ℕ, ◌+◌, ◌*◌, ◌<◌}
use mathlib.Core.List.{List}
use mathlib.Core.Path.{◌≡◌, ◌∙◌}
use lib.ListN.{length, set}
use native.Mathlib.Omega.{arith}
use Rattle.base.proofs.Tests.{one_more}
use Rattle.road.specs.Table.{most_places, metres_of, entry}
use Rattle.dispatch.specs.Legs.{plan_room, cell, follower_row, Costed, ColumnFilled}
use Rattle.dispatch.proofs.legs.Laws.{cell-written, cell_kept}
use Rattle.dispatch.proofs.legs.fill_column.Given as goal

module _ (to : ℕ → ℕ) (p : ℕ) (old : List ℕ) where
  -- one more place
  pub column_turned : (now : List ℕ) (x v : ℕ) → ColumnFilled x to p old now → length now ≡ length old → p < plan_room → Costed old
      → x < most_places → v ≡ to x → ColumnFilled (x + 1) to p old (set now (plan_room * x + p) v)
  unfolding follower_row
  column_turned now x v f long col k lt e =
      let fits = k.long in
      record {
        column = one_more (λ y. cell (set now (plan_room * x + p) v) y p ≡ to y) x
            (cell-written now x p v col (omega arith) ∙ e)
            (λ y h. cell_kept now x p v col y p col (λ s _. omega arith) ∙ f.column y h);
        others = λ i q h away. cell_kept now x p v col i q h (λ _ s. away s) ∙ f.others i q h away;
        rows = λ b h. cell_kept now x p v col most_places b h (λ s _. omega arith) ∙ f.rows b h;
      }

abbrev pub invariant-loop-x : goal.invariant-loop-x
invariant-loop-x l = ColumnFilled l.x (entry (metres_of l.table) l.from) l.p l.initial.costs l.costs
