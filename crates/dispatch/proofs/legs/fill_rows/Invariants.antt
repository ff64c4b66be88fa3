-- `dispatch::legs::fill_rows` meets its contract: after each turn the rows of the places so far are filled. Assumes nothing.
use Prim.Native.Nat.{ℕ, ◌+◌, ◌*◌, ◌<◌, ◌≤◌}
use mathlib.Core.List.{List}
use mathlib.Core.Path.{◌≡◌, ◌∙◌}
use lib.ListN.{length}
use native.Mathlib.Omega.{arith}
use Rattle.base.specs.Lists.{up_to}
use Rattle.base.proofs.Tests.{one_more}
use Rattle.road.specs.Table.{most_places, metres_of, entry}
use Rattle.workfunction.specs.Plan.{stops, place}
use Rattle.dispatch.specs.Legs.{plan_room, cell, follower_row, Costed, RowsFilled}
use Rattle.dispatch.proofs.legs.Laws.{lent, row_put_back, row_new, row_kept}
use Rattle.dispatch.proofs.legs.fill_rows.Given as goal

module _ (read : ℕ → ℕ → ℕ) (starts calls old : List ℕ) where
  abbrev pub n : ℕ
  n = stops starts calls

  -- one more row
  pub rows_turned : (now row : List ℕ) (x : ℕ) → RowsFilled x read starts calls old now → length now ≡ length old → n ≤ plan_room → Costed old
      → x < most_places → row ≡ up_to (length (lent now x n)) (λ p. read (place starts calls p) x)
      → RowsFilled (x + 1) read starts calls old (row_put_back now x n row)
  unfolding follower_row
  rows_turned now row x f long few k lt same =
      let g : ℕ → ℕ = λ p. read (place starts calls p) x in
      let fits = k.long in
      let at : plan_room * x + n ≤ length now = omega arith in
      let kept = row_kept now row x n g at same few in
      record {
        metres = λ p y h. one_more (λ z. cell (row_put_back now x n row) z p ≡ read (place starts calls p) z) x
            (row_new now row x n g at same p h)
            (λ z l. kept z p (omega arith) (λ s. omega arith) ∙ f.metres p z h l) y;
        rows = λ b h. kept most_places b h (λ s. omega arith) ∙ f.rows b h;
      }

abbrev pub invariant-loop-x : goal.invariant-loop-x
invariant-loop-x l = RowsFilled l.x (entry (metres_of l.instance.table.now)) l.instance.starts.now l.instance.calls.now l.initial.costs l.costs
