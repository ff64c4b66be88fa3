-- What is read back of a row is its values.
-- Assumes nothing.
use Prim.Native.Nat.{ℕ, zero, suc, ◌+◌, ◌-◌, ◌*◌, ◌/◌, ◌%◌, ◌^◌, ◌<◌}
use mathlib.Core.Bool.{Bool, true, false, cond}
use mathlib.Core.List.{List, [], ◌∷◌, ◌++◌, append_assoc, foldl, foldl-append}
use mathlib.Core.Path.{◌≡◌, refl, ◌∙◌}
use borrow.Author.Tests.{ltb-true, ltb-false, ne_eqb}
use lib.Dec.{eqb, ltb}
use lib.ListN.{length, take, drop, replicate}
use lib.Seq.{take_at, drop-append-add}
use native.Mathlib.Nat.{zero-add, mul-zero}
use native.Mathlib.Omega.{arith}
use Rattle.base.specs.Decimal.{up_to_digits, decimal}
use Rattle.base.proofs.Decimal.{digits_one, digits_more, fewer_digits}
use Rattle.sheet.specs.declared.row.Row.{Row}
use Rattle.sheet.specs.Row.{aligned, column, row_bytes, Fits, value_of, read_row}
use Rattle.sheet.proofs.row.Laws.{length-column, row_wide}

-- ---- a number

-- one byte more
abbrev step : ℕ → ℕ → ℕ
step n b = cond (eqb b 32) n (10 * n + (b - 48))

step_digit : (n x : ℕ) → step n (48 + x) ≡ 10 * n + x
step_digit n x =
    let digit : 48 + x - 48 ≡ x = omega arith in
    rw (ne_eqb (48 + x) 32 (λ e. omega arith), digit)

blanks_read : (k n : ℕ) → foldl step n (replicate k 32) ≡ n
blanks_read zero n = refl
blanks_read (suc k) n = blanks_read k n

one_read : (k n : ℕ) → n < 10 → foldl step 0 (up_to_digits (suc k) n) ≡ n
one_read k n h = rw (digits_one k n h, step_digit 0 n, mul-zero) (zero-add n)

digits_read : (k n : ℕ) → n < 10 ^ suc k → foldl step 0 (up_to_digits (suc k) n) ≡ n
digits_read zero n h = one_read zero n h
digits_read (suc k) n h = go (ltb n 10) refl (digits_read k (n / 10) (fewer_digits (suc k) n h))
  where
    go : (b : Bool) → ltb n 10 ≡ b → foldl step 0 (up_to_digits (suc k) (n / 10)) ≡ n / 10 → foldl step 0 (up_to_digits (suc (suc k)) n) ≡ n
    go true e others = one_read (suc k) n (ltb-true n 10 e)
    go false e others =
        rw (digits_more (suc k) n (ltb-false n 10 e), foldl-append step 0 (up_to_digits (suc k) (n / 10)) ((48 + n % 10) ∷ []), others, step_digit (n / 10) (n % 10))
        (omega arith)

pub value_aligned : (w n : ℕ) → n < 2 ^ 64 → value_of (aligned w n) ≡ n
unfolding value_of aligned decimal
value_aligned w n h =
    foldl-append step 0 (replicate (w - length (up_to_digits 20 n)) 32) (up_to_digits 20 n)
    ∙ rw (blanks_read (w - length (up_to_digits 20 n)) 0) (digits_read 19 n (omega arith))

-- ---- a row

-- what is read of a column, whatever stands behind it
column_read : (w n end : ℕ) (rest : List ℕ) → length (aligned w n) ≡ w → n < 2 ^ 64 → value_of (take w (column w n end ++ rest)) ≡ n
column_read w n end rest wide h =
    rw (append_assoc (aligned w n) (end ∷ []) rest, take_at (aligned w n) (end ∷ rest) w wide) (value_aligned w n h)

-- past a column of a bytes, and b further
past : (a b w : ℕ) (x rest : List ℕ) → length x ≡ a → value_of (take w (drop (a + b) (x ++ rest))) ≡ value_of (take w (drop b rest))
past a b w x rest e = rw (← e, drop-append-add x rest b)

pub row_back : (r : Row) (rest : List ℕ) → Fits r → read_row (row_bytes r ++ rest) ≡ r
unfolding row_bytes read_row
row_back r rest f =
    let wide = row_wide r f in
    let c : List ℕ = column 3 r.call 32 in
    let p : List ℕ = column 2 r.place 32 in
    let s : List ℕ = column 2 r.crane 32 in
    let m : List ℕ = column 7 r.metres 32 in
    let from-least : List ℕ = column 9 r.least 10 ++ rest in
    let from-metres : List ℕ = m ++ from-least in
    let from-crane : List ℕ = s ++ from-metres in
    let from_place : List ℕ = p ++ from-crane in
    let first : length c ≡ 4 = length-column 3 r.call 32 wide.call in
    let second : length p ≡ 3 = length-column 2 r.place 32 wide.place in
    let third : length s ≡ 3 = length-column 2 r.crane 32 wide.crane in
    let fourth : length m ≡ 8 = length-column 7 r.metres 32 wide.metres in
    let whole : row_bytes r ++ rest ≡ c ++ from_place = simp append_assoc in
    rw whole
    (λ i.
    record {
      call = column_read 3 r.call 32 from_place wide.call (omega (arith, f.call)) i;
      place = (past 4 0 2 c from_place first ∙ column_read 2 r.place 32 from-crane wide.place (omega (arith, f.place))) i;
      crane =
          (past 4 3 2 c from_place first ∙ past 3 0 2 p from-crane second
          ∙ column_read 2 r.crane 32 from-metres wide.crane (omega (arith, f.crane))) i;
      metres =
          (past 4 6 7 c from_place first ∙ past 3 3 7 p from-crane second ∙ past 3 0 7 s from-metres third
          ∙ column_read 7 r.metres 32 from-least wide.metres (omega (arith, f.metres))) i;
      least =
          (past 4 14 9 c from_place first ∙ past 3 11 9 p from-crane second ∙ past 3 8 9 s from-metres third ∙ past 8 0 9 m from-least fourth
          ∙ column_read 9 r.least 10 rest wide.least (omega (arith, f.least))) i;
    })
