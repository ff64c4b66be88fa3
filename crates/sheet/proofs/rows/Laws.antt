-- The laws of rows one behind another: how long they are, and the loop that writes them.
-- Assumes nothing.
use Prim.Native.Nat.{ℕ, ◌+◌, ◌*◌, ◌<◌, ◌≤◌, zero-le}
use mathlib.Core.List.{List, flat_map}
use mathlib.Core.Path.{◌≡◌, refl, ap, ◌∙◌}
use lib.ListN.{length, get_or}
use native.Mathlib.Nat.{zero-add, le_trans}
use native.Mathlib.Omega.{arith}
use Rattle.base.specs.Lists.{up_to, splice}
use Rattle.base.proofs.Blocks.{each_up_to, flat_map-append, flat_map-one, length-flat_map}
use Rattle.base.proofs.Lists.{length-up_to, up_to_more, Spliced, splice_begun, splice_turned}
use Rattle.sheet.specs.declared.row.Row.{Row}
use Rattle.sheet.specs.Row.{row_bytes, Fits}
use Rattle.sheet.specs.Sheet.{row_at}
use Rattle.sheet.proofs.row.Laws.{length_row}

pub length_rows : (next : ℕ → Row) (n : ℕ) → ((i : ℕ) → i < n → Fits (next i)) → length (flat_map row_bytes (up_to n next)) ≡ 28 * n
length_rows next n fits =
    length-flat_map row_bytes 28 (up_to n next) (each_up_to (λ r. length (row_bytes r) ≡ 28) n next (λ i lt. length_row (next i) (fits i lt)))
    ∙ ap (λ (k : ℕ). 28 * k) (length-up_to n next)

module _ (next : ℕ → Row) (old : List ℕ) (n : ℕ) (fits : (i : ℕ) → i < n → Fits (next i)) (room : 28 * n ≤ length old) where
  -- after i turns of n the first i rows are written
  abbrev text : ℕ → List ℕ
  text i = flat_map row_bytes (up_to i next)

  pub rows_begun : Spliced text 0 old n old 0
  unfolding up_to flat_map
  rows_begun = splice_begun text 0 old n refl zero-le

  long : (i : ℕ) → i ≤ n → length (text i) ≡ 28 * i
  long i h = length_rows next i (λ j lt. fits j (le_trans lt h))

  pub rows_turned : (now new : List ℕ) (i : ℕ) (r : Row) → r ≡ next i → Spliced text 0 old n now i → i < n
      → new ≡ splice (28 * i) (row_bytes r) now → Spliced text 0 old n new (i + 1)
  rows_turned now new i r same p lt e =
      let more = ap (flat_map row_bytes) (up_to_more i next) ∙ flat_map-append row_bytes (up_to i next) _ in
      splice_turned text 0 old n now new (row_bytes (next i)) i (more ∙ rw (flat_map-one row_bytes (next i)))
      (rw (long (i + 1) (omega arith)) (omega arith)) p lt (rw (long i (omega arith), zero-add, ← same) e)

-- calls are numbered from 0
pub numbered : (requests cranes metres leasts : List ℕ) (i : ℕ)
    → ◌≡◌ {A = Row}
    (record { call = 0 + i; place = get_or requests i 0; crane = get_or cranes i 0; metres = get_or metres i 0; least = get_or leasts i 0 })
    (row_at requests cranes metres leasts i)
numbered requests cranes metres leasts i = rw (zero-add i)
