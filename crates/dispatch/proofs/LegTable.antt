-- The laws of a book's table of legs: what it says of a leg, how it stands with other metres, with one call more and with a crane at
-- another place, and how it is filled. Assumes nothing.
use Prim.Native.Nat.{ℕ, ◌+◌, ◌-◌, ◌<◌, ◌≤◌}
use mathlib.Core.List.{List, [], ◌∷◌, ◌++◌}
use mathlib.Core.Logic.{◌⊎◌, inl, inr}
use mathlib.Core.Path.{◌≡◌, ap, ◌∙◌}
use lib.ListN.{length, get_or, length-append}
use native.Mathlib.Decide.{ℕ_discrete, dec_lt}
use native.Mathlib.Nat.{zero-add, le_trans, eq-or-lt_of_le}
use native.Mathlib.Omega.{arith}
use Rattle.road.specs.Table.{most_places}
use Rattle.workfunction.specs.Choice.{moved}
use Rattle.workfunction.specs.Plan.{stops, place, leg_cost}
use Rattle.workfunction.proofs.Stops.{place_stand, place_last, place_early, place-crane, place_others}
use Rattle.book.proofs.Places.{place_past}
use Rattle.dispatch.specs.Legs.{plan_room, cell, follower_row, leg_at, LegTable, RowsFilled, FollowerPut, FollowersPut, ColumnFilled, StopAdded}

module _ {n : ℕ} {d : ℕ → ℕ → ℕ} {starts calls stands costs : List ℕ} (table : LegTable n d starts calls stands costs) where
  -- a leg costs the metres from the stop to the follower's place
  pub table_leg : (p b : ℕ) → p < stops starts calls → b < stops starts calls → place stands calls b < n
      → leg_at costs p b ≡ leg_cost d starts calls stands p b
  unfolding leg_at leg_cost
  table_leg p b h l on = rw (table.rows b l) (table.metres p (place stands calls b) h on)

  -- metres of fewer places that are the same from every stop
  pub table_over : {m : ℕ} {e : ℕ → ℕ → ℕ} → m ≤ n
      → ((p x : ℕ) → p < stops starts calls → x < m → d (place starts calls p) x ≡ e (place starts calls p) x)
      → LegTable m e starts calls stands costs
  table_over le same = record {
    costed = table.costed;
    metres = λ p x h l. table.metres p x h (le_trans l le) ∙ same p x h l;
    rows = table.rows;
  }

  -- with one call more, at r
  module _ (few : n ≤ most_places) (aligned : length stands ≡ length starts) {read : ℕ → ℕ → ℕ} {r : ℕ} {costs' : List ℕ}
      (reads : (x : ℕ) → x < n → read r x ≡ d r x) (added : StopAdded read (stops starts calls) r costs costs') where
    metres_grown : (p x : ℕ) → (p ≡ stops starts calls) ⊎ (p < stops starts calls) → x < n
        → cell costs' x p ≡ d (place starts (calls ++ (r ∷ [])) p) x
    metres_grown p x (inl e) l = rw (e, place_last starts calls r) (added.column x (le_trans l few) ∙ reads x l)
    metres_grown p x (inr h) l = rw (place_early starts calls r p h) (added.metres p x h (le_trans l few) ∙ table.metres p x h l)

    rows_grown : (b : ℕ) → (b ≡ stops starts calls) ⊎ (b < stops starts calls) → follower_row costs' b ≡ place stands (calls ++ (r ∷ [])) b
    rows_grown b (inl e) = rw (e, ← aligned, place_last stands calls r) (rw aligned added.row)
    rows_grown b (inr h) = rw (place_early stands calls r b (rw aligned h)) (added.rows b h ∙ table.rows b h)

    pub table_grown : LegTable n d starts (calls ++ (r ∷ [])) stands costs'
    table_grown =
        let more = length-append calls (r ∷ []) in
        record {
          costed = added.costed;
          metres = λ p x h l. metres_grown p x (eq-or-lt_of_le (omega arith)) l;
          rows = λ b h. rows_grown b (eq-or-lt_of_le (omega arith));
        }

  -- with the last call gone again
  pub table_shrunk : (before : List ℕ) (r : ℕ) → length stands ≡ length starts → calls ≡ before ++ (r ∷ []) → LegTable n d starts before stands costs
  table_shrunk before r aligned e =
      let more = length-append before (r ∷ []) in
      let long : length calls ≡ length (before ++ (r ∷ [])) = ap length e in
      record {
        costed = table.costed;
        metres = λ p x h l. table.metres p x (omega arith) l ∙ rw (e, place_early starts before r p h);
        rows = λ b h. table.rows b (omega arith) ∙ rw (e, place_early stands before r b (rw aligned h));
      }

  -- with crane s at r
  pub table_moved : n ≤ most_places → stops starts calls ≤ plan_room → {r s : ℕ} {costs' : List ℕ} → s < length stands
      → FollowerPut s r costs costs' → LegTable n d starts calls (moved stands r s) costs'
  table_moved most few {r} {s} {costs'} crane put = record {
    costed = put.costed;
    metres = λ p x h l. put.cells x p (omega arith) (le_trans h few) ∙ table.metres p x h l;
    rows = λ b h. either b h (ℕ_discrete b s);
  }
    where
      either : (b : ℕ) → b < stops starts calls → Dec (b ≡ s) → follower_row costs' b ≡ place (moved stands r s) calls b
      either b h (yes e) = rw (e, place-crane stands calls r s crane) put.row
      either b h (no away) = rw (place_others stands calls r s b crane away) (put.others b away ∙ table.rows b h)

-- a column is filled, then its stop is put at its place as a follower
pub stop_added : {read : ℕ → ℕ → ℕ} {N r : ℕ} {costs column costs' : List ℕ} → N < plan_room → ColumnFilled most_places (read r) N costs column
    → FollowerPut N r column costs' → StopAdded read N r costs costs'
stop_added {N = N} few filled put = record {
  costed = put.costed;
  column = λ x l. put.cells x N (omega arith) few ∙ filled.column x l;
  row = put.row;
  metres = λ p x h l. put.cells x p (omega arith) (omega arith) ∙ filled.others x p (omega arith) (λ e. omega arith);
  rows = λ b h. put.others b (λ e. omega arith) ∙ filled.rows b (omega arith);
}

-- the row of a call, once the calls are put at their places
call_row : (starts : List ℕ) {calls costs costs' : List ℕ} → FollowersPut (length calls) (length starts) calls costs costs' → (b : ℕ) → length starts ≤ b
    → b < stops starts calls → follower_row costs' b ≡ get_or calls (b - length starts) 0
call_row starts put b le l =
    let e : length starts + (b - length starts) ≡ b = omega arith in rw e at (put.put (b - length starts) (omega arith))

module _ {read : ℕ → ℕ → ℕ} {starts calls costs rows : List ℕ} (few : stops starts calls ≤ plan_room)
    (filled : RowsFilled most_places read starts calls costs rows) where
  -- the rows of the places are filled, then the cranes are put at their stands, and the calls at their places
  pub table_filled : {stands stood costs' : List ℕ} → length stands ≡ length starts → FollowersPut (length stands) 0 stands rows stood
      → FollowersPut (length calls) (length starts) calls stood costs' → LegTable most_places read starts calls stands costs'
  table_filled {stands} {costs' = costs'} aligned first put = record {
    costed = put.costed;
    metres = λ p x h l. put.cells x p (omega arith) (le_trans h few) ∙ first.cells x p (omega arith) (le_trans h few)
        ∙ filled.metres p x h l;
    rows = λ b h. either b h (dec_lt b (length starts));
  }
    where
      either : (b : ℕ) → b < stops starts calls → Dec (b < length starts) → follower_row costs' b ≡ place stands calls b
      either b h (yes l) =
          let in_range : b < length stands = rw aligned l in
          rw (place_stand stands calls b in_range) (put.before b l ∙ rw (zero-add b) at (first.put b in_range))
      either b h (no m) = rw (place_past stands calls b (rw aligned (omega arith)), aligned) (call_row starts put b (omega arith) h)
