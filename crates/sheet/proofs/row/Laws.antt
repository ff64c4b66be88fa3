-- The laws of a row: the digits of a number aligned right, and columns one behind another.
-- Assumes nothing.
use Prim.Native.Nat.{ℕ, zero, suc, ◌+◌, ◌-◌, ◌/◌, ◌%◌, ◌^◌, ◌<◌, ◌≤◌}
use mathlib.Core.Bool.{Bool, true, false, cond}
use mathlib.Core.List.{List, [], ◌∷◌, ◌++◌, append_assoc}
use mathlib.Core.Path.{◌≡◌, refl, sym, ap, ◌∙◌}
use borrow.Author.Tests.{ltb-true, ltb-false, ne_eqb}
use lib.Dec.{eqb, ltb}
use lib.ListN.{length, get_or, set, take, drop, replicate, length-set, length-append, length-drop, replicate-append-replicate}
use lib.Seq.{drop-length, drop_at, drop-drop, drop-cons, set_at, set_split, append_snoc, length-take-le}
use native.Mathlib.Nat.{not-suc-le-zero, zero-lt-suc, add-sub_cancel_left, div-eq_of_lt, mod-eq_of_lt, zero-div, le_of_lt}
use native.Mathlib.Numerals.{add-one}
use native.Mathlib.Omega.{arith}
use Rattle.base.specs.Decimal.{up_to_digits, decimal}
use Rattle.base.specs.Lists.{splice}
use Rattle.base.proofs.Decimal.{digits_one, digits_more, fewer_digits}
use Rattle.base.proofs.Lists.{splice_on}
use Rattle.sheet.specs.declared.row.Row.{Row}
use Rattle.sheet.specs.Row.{aligned, column, row_bytes, Fits}

-- ---- a number aligned right

-- the byte of a number's last digit, and a blank where no digit is left
abbrev pub mark : ℕ → ℕ
mark n = cond (eqb n 0) 32 (48 + n % 10)

pub mark_none : (n : ℕ) → n ≡ 0 → 32 ≡ mark n
mark_none n e = rw e

pub mark_some : (n : ℕ) → (n ≡ 0 → ⊥) → 48 + n % 10 ≡ mark n
mark_some n h = rw (ne_eqb n 0 h)

-- the w bytes in front of a digit, n being the number of the digits that are left
unfoldable pub lead : ℕ → ℕ → List ℕ
lead zero n = []
lead (suc w) n = lead w (n / 10) ++ (mark n ∷ [])

lead_none : (w : ℕ) → lead w 0 ≡ replicate w 32
unfolding lead
lead_none zero = refl
lead_none (suc w) = rw (zero-div 10, lead_none w) (replicate-append-replicate w 1 32 ∙ rw (add-one w))

lead_some : (w n : ℕ) → 0 < n → lead (suc w) n ≡ lead w (n / 10) ++ ((48 + n % 10) ∷ [])
unfolding lead
lead_some w n h = rw (← mark_some n (λ e. omega arith))

-- digits with blanks in front of them
abbrev spread : ℕ → ℕ → ℕ → List ℕ
spread k w n = replicate (w - length (up_to_digits k n)) 32 ++ up_to_digits k n

spread_one : (k w n : ℕ) → n < 10 → spread (suc k) (suc w) n ≡ lead w (n / 10) ++ ((48 + n % 10) ∷ [])
spread_one k w n h =
    let one : suc w - 1 ≡ w = omega arith in
    rw (digits_one k n h, div-eq_of_lt h, mod-eq_of_lt h, lead_none w, one)

spread_more : (k w n : ℕ) → 10 ≤ n → spread (suc k) (suc w) n ≡ spread k w (n / 10) ++ ((48 + n % 10) ∷ [])
spread_more k w n h =
    let front : List ℕ = up_to_digits k (n / 10) in
    let fewer : suc w - (length front + 1) ≡ w - length front = omega arith in
    rw (digits_more k n h, length-append front ((48 + n % 10) ∷ []), fewer) (sym (append_assoc (replicate (w - length front) 32) front _))

-- the last digit of a number that fits, behind the others
spread_last : (k w n : ℕ) → n < 10 ^ suc k → n < 10 ^ suc w → spread (suc k) (suc w) n ≡ lead w (n / 10) ++ ((48 + n % 10) ∷ [])
spread_last zero w n most fits = spread_one zero w n most
spread_last (suc k) zero n most fits = spread_one (suc k) zero n fits
spread_last (suc k) (suc w) n most fits =
    go (ltb n 10) refl (spread_last k w (n / 10) (fewer_digits (suc k) n most) (fewer_digits (suc w) n fits))
  where
    go : (b : Bool) → ltb n 10 ≡ b → spread (suc k) (suc w) (n / 10) ≡ lead w (n / 10 / 10) ++ ((48 + n / 10 % 10) ∷ [])
        → spread (suc (suc k)) (suc (suc w)) n ≡ lead (suc w) (n / 10) ++ ((48 + n % 10) ∷ [])
    go true e others = spread_one (suc k) (suc w) n (ltb-true n 10 e)
    go false e others =
        let h : 10 ≤ n = ltb-false n 10 e in
        spread_more (suc k) (suc w) n h ∙ ap (λ (l : List ℕ). l ++ ((48 + n % 10) ∷ [])) (others ∙ sym (lead_some w (n / 10) (omega arith)))

-- every number of 64 bits has at most 20 digits
pub aligned_last : (w n : ℕ) → n < 2 ^ 64 → n < 10 ^ suc w → aligned (suc w) n ≡ lead w (n / 10) ++ ((48 + n % 10) ∷ [])
unfolding aligned decimal
aligned_last w n h fits = spread_last 19 w n (omega arith) fits

length_lead : (w n : ℕ) → length (lead w n) ≡ w
unfolding lead
length_lead zero n = refl
length_lead (suc w) n = rw (length-append, length_lead w (n / 10)) (add-one w)

pub length-aligned : (w n : ℕ) → 0 < w → n < 2 ^ 64 → n < 10 ^ w → length (aligned w n) ≡ w
length-aligned zero n some h fits = absurd (not-suc-le-zero some)
length-aligned (suc w) n some h fits = rw (aligned_last w n h fits, length-append, length_lead w (n / 10)) (add-one w)

-- ---- the loop that aligns a number, from the last byte back

set-drop : (l : List ℕ) (i a : ℕ) → i < length l → drop i (set l i a) ≡ a ∷ drop (suc i) l
set-drop l i a h = rw (set_split l i a h) (drop_at (take i l) (a ∷ drop (suc i) l) i (length-take-le i l (le_of_lt h)))

-- its invariant: the bytes in front of index at, of the digits that are left, and those from there on are n aligned in w bytes
pub record Aligning (n w : ℕ) (now : List ℕ) (at rest : ℕ) : Type 0 where
  pub ahead : at < w
  pub long : length now ≡ w
  pub same : lead at rest ++ drop at now ≡ aligned w n

-- the last digit is put
pub align_begun : (n : ℕ) (old : List ℕ) → n < 2 ^ 64 → 0 < length old → n < 10 ^ length old
    → Aligning n (length old) (set old (length old - 1) (48 + n % 10)) (length old - 1) (n / 10)
align_begun n old h some fits =
    let w : ℕ = length old - 1 in
    let whole : length old ≡ suc w = omega arith in
    let none : drop (suc w) old ≡ [] = rw whole at (drop-length old) in
    record {
      ahead = omega arith;
      long = length-set old w (48 + n % 10);
      same = rw (set-drop old w (48 + n % 10) (omega arith), none) (sym (rw (← whole) at (aligned_last w n h (rw whole at fits))));
    }

module _ {n w : ℕ} {now : List ℕ} {at rest : ℕ} (p : Aligning n w now at rest) where
  -- one more, or a blank
  pub align_turned : (a : ℕ) → 0 < at → a ≡ mark rest → Aligning n w (set now (at - 1) a) (at - 1) (rest / 10)
  unfolding lead
  align_turned a some m =
      let i : ℕ = at - 1 in
      let one : at ≡ suc i = omega arith in
      let before : lead i (rest / 10) ++ (mark rest ∷ []) ++ drop (suc i) now ≡ aligned w n = rw one at p.same in
      record {
        ahead = omega (arith, p.ahead);
        long = length-set now i a ∙ p.long;
        same = rw (m, set-drop now i (mark rest) (omega (arith, p.ahead, p.long))) (sym (append_snoc (lead i (rest / 10)) (mark rest) (drop (suc i) now)) ∙ before);
      }

  pub align_ended : at ≡ 0 → now ≡ aligned w n
  unfolding lead
  align_ended e = rw e at p.same

-- ---- columns

pub length-column : (w n end : ℕ) → length (aligned w n) ≡ w → length (column w n end) ≡ w + 1
length-column w n end wide = rw (length-append, wide)

-- the part of a buffer from index at on that is w bytes wide
pub part_long : (at w : ℕ) (l : List ℕ) → at + w ≤ length l → length (take (at + w - at) (drop at l)) ≡ w
part_long at w l h = length-take-le (at + w - at) (drop at l) (omega (arith, length-drop at l)) ∙ add-sub_cancel_left at w

-- a number aligned in such a part, and the byte behind it
pub column_put : (n w end at : ℕ) (old part : List ℕ) → at + w + 1 ≤ length old → length (aligned w n) ≡ w
    → part ≡ aligned (length (take (at + w - at) (drop at old))) n
    → set (take at old ++ (part ++ drop (at + w - at) (drop at old))) (at + w) end ≡ splice at (column w n end) old
unfolding splice
column_put n w end at old part h wide e =
    let a : List ℕ = aligned w n in
    let whole : part ≡ a = e ∙ ap (λ (k : ℕ). aligned k n) (part_long at w old (omega arith)) in
    let front : length (take at old ++ a) ≡ at + w = length-append (take at old) a ∙ (omega (arith, length-take-le at old (omega arith))) in
    let rest : drop (at + w - at) (drop at old) ≡ get_or old (at + w) 0 ∷ drop (suc (at + w)) old =
    rw (add-sub_cancel_left at w, drop-drop w at old) (drop-cons old (at + w) 0 (omega arith))
    in
    let far : suc (at + w) ≡ at + length (a ++ (end ∷ [])) = rw length-append (omega arith) in
    rw (whole, rest, ← append_assoc (take at old) a (get_or old (at + w) 0 ∷ drop (suc (at + w)) old))
    (set_at (take at old ++ a) (get_or old (at + w) 0) (drop (suc (at + w)) old) end (at + w) front
    ∙ append_assoc (take at old) a (end ∷ drop (suc (at + w)) old)
    ∙ rw far (ap (λ (l : List ℕ). take at old ++ l) (sym (append_snoc a end (drop (at + length (a ++ (end ∷ []))) old)))))

-- ---- rows

-- each number of a row is as wide as its column
pub record Wide (r : Row) : Type 0 where
  pub call : length (aligned 3 r.call) ≡ 3
  pub place : length (aligned 2 r.place) ≡ 2
  pub crane : length (aligned 2 r.crane) ≡ 2
  pub metres : length (aligned 7 r.metres) ≡ 7
  pub least : length (aligned 9 r.least) ≡ 9

pub row_wide : (r : Row) → Fits r → Wide r
row_wide r f = record {
  call = length-aligned 3 r.call (zero-lt-suc 2) (omega (arith, f.call)) f.call;
  place = length-aligned 2 r.place (zero-lt-suc 1) (omega (arith, f.place)) f.place;
  crane = length-aligned 2 r.crane (zero-lt-suc 1) (omega (arith, f.crane)) f.crane;
  metres = length-aligned 7 r.metres (zero-lt-suc 6) (omega (arith, f.metres)) f.metres;
  least = length-aligned 9 r.least (zero-lt-suc 8) (omega (arith, f.least)) f.least;
}

pub length_row : (r : Row) → Fits r → length (row_bytes r) ≡ 28
unfolding row_bytes
length_row r f = let w = row_wide r f in simp (length-append, w.call, w.place, w.crane, w.metres, w.least)

-- a text written behind another of k bytes
behind : (at k : ℕ) (x y old now new : List ℕ) → now ≡ splice at x old → length x ≡ k → new ≡ splice (at + k) y now
    → at + k + length y ≤ length old → new ≡ splice at (x ++ y) old
behind at k x y old now new p long q room = q ∙ rw (p, ← long) (splice_on at x y old (omega arith))

-- the columns, one behind another
pub columns_put : (r : Row) (at : ℕ) (old a b c d e : List ℕ) → Fits r → at + 28 ≤ length old
    → a ≡ splice at (column 3 r.call 32) old
    → b ≡ splice (at + 4) (column 2 r.place 32) a
    → c ≡ splice (at + 7) (column 2 r.crane 32) b
    → d ≡ splice (at + 10) (column 7 r.metres 32) c
    → e ≡ splice (at + 18) (column 9 r.least 10) d
    → e ≡ splice at (row_bytes r) old
unfolding row_bytes
columns_put r at old a b c d e f fits p q s t u =
    let w = row_wide r f in
    let call = length-column 3 r.call 32 w.call in
    let place = length-column 2 r.place 32 w.place in
    let crane = length-column 2 r.crane 32 w.crane in
    let metres = length-column 7 r.metres 32 w.metres in
    let least = length-column 9 r.least 10 w.least in
    let one : List ℕ = column 3 r.call 32 in
    let two : List ℕ = one ++ column 2 r.place 32 in
    let three : List ℕ = two ++ column 2 r.crane 32 in
    let four : List ℕ = three ++ column 7 r.metres 32 in
    let seven : length two ≡ 7 = length-append one _ ∙ (omega arith) in
    let ten : length three ≡ 10 = length-append two _ ∙ (omega arith) in
    let eighteen : length four ≡ 18 = length-append three _ ∙ (omega arith) in
    let after_two = behind at 4 one _ old a b p call q (omega arith) in
    let after-three = behind at 7 two _ old b c after_two seven s (omega arith) in
    let after-four = behind at 10 three _ old c d after-three ten t (omega arith) in
    behind at 18 four _ old d e after-four eighteen u (omega arith)
