-- A signed number as the difference of two naturals, plus less minus, so that what is said of signed numbers becomes
-- what omega reads. Assumes nothing.
use Prim.Native.Nat.{ℕ, zero, suc, ◌+◌, ◌-◌, ◌<◌, ◌≤◌, zero-le}
use mathlib.Core.Bool.{Bool, true, false, cond, not, false≢true}
use mathlib.Core.Path.{◌≡◌, refl, sym, ap, subst, ◌∙◌}
use borrow.Author.Tests.{ltb-true, ltb-false, leb-true, le-leb, lt-leb}
use lib.Dec.{T, leb, ltb, leb→le}
use lib.IntN.{ℤ, pos, negsuc, neg_ℤ, sub_ℕ, ◌+ℤ◌, ◌-ℤ◌, neg_ℤ-neg_ℤ, neg_ℤ-+ℤ, +ℤ_comm, +ℤ_assoc, -ℤ-+ℤ_cancel}
use lib.Signed.{le_z, lt_z, ◌≤ℤ◌, le_z_yes}
use mir.Syntax.{w64}
use mir.Val.{SFits}
use native.Mathlib.Nat.{le_antisymm, le_of_eq}
use native.Mathlib.Omega.{arith}

unfoldable pub plus : ℤ → ℕ
plus (pos n) = n
plus (negsuc n) = 0

unfoldable pub minus : ℤ → ℕ
minus (pos n) = 0
minus (negsuc n) = suc n

-- the sum
less : (a b : ℕ) → plus (sub_ℕ a b) + b ≡ a + minus (sub_ℕ a b)
unfolding plus minus
less a b = go (ltb a b) refl
  where
    go : (t : Bool) → ltb a b ≡ t → plus (cond t (negsuc (b - suc a)) (pos (a - b))) + b ≡ a + minus (cond t (negsuc (b - suc a)) (pos (a - b)))
    go true e = let h = ltb-true a b e in omega arith
    go false e = let h = ltb-false a b e in omega arith

pub plus_sum : (a b : ℤ) → plus (a +ℤ b) + (minus a + minus b) ≡ plus a + plus b + minus (a +ℤ b)
unfolding plus minus
plus_sum (pos a) (pos b) = omega arith
plus_sum (pos a) (negsuc b) = let e = less a (suc b) in omega arith
plus_sum (negsuc a) (pos b) = let e = less b (suc a) in omega arith
plus_sum (negsuc a) (negsuc b) = omega arith

-- the opposite
pub plus_neg : (a : ℤ) → plus (neg_ℤ a) ≡ minus a
unfolding plus minus
plus_neg (pos zero) = refl
plus_neg (pos (suc n)) = refl
plus_neg (negsuc n) = refl

pub minus_neg : (a : ℤ) → minus (neg_ℤ a) ≡ plus a
unfolding plus minus
minus_neg (pos zero) = refl
minus_neg (pos (suc n)) = refl
minus_neg (negsuc n) = refl

-- the difference
pub plus_difference : (a b : ℤ) → plus (a -ℤ b) + (minus a + plus b) ≡ plus a + minus b + minus (a -ℤ b)
plus_difference a b = let e = plus_sum a (neg_ℤ b) in rw (← minus_neg b, ← plus_neg b) e

-- a difference is no further from 0 than both of its parts together
pub difference_plus : (a b : ℤ) → plus (a -ℤ b) ≤ plus a + minus b
unfolding plus minus
difference_plus a b = go (a -ℤ b) (plus_difference a b)
  where
    go : (d : ℤ) → plus d + (minus a + plus b) ≡ plus a + minus b + minus d → plus d ≤ plus a + minus b
    go (pos n) e = omega arith
    go (negsuc n) e = zero-le

pub difference_minus : (a b : ℤ) → minus (a -ℤ b) ≤ minus a + plus b
unfolding plus minus
difference_minus a b = go (a -ℤ b) (plus_difference a b)
  where
    go : (d : ℤ) → plus d + (minus a + plus b) ≡ plus a + minus b + minus d → minus d ≤ minus a + plus b
    go (pos n) e = zero-le
    go (negsuc n) e = omega arith

-- the limits of a difference of two naturals, by how far each is above the other
pub difference_within : (m n high low : ℕ) → m ≤ n + high → n ≤ m + low
    → (plus (pos m -ℤ pos n) ≤ high) × (minus (pos m -ℤ pos n) ≤ low)
unfolding plus minus
difference_within m n high low h l = go (pos m -ℤ pos n) (plus_difference (pos m) (pos n))
  where
    go : (d : ℤ) → plus d + (0 + n) ≡ m + 0 + minus d → (plus d ≤ high) × (minus d ≤ low)
    go (pos a) e = (omega arith, zero-le)
    go (negsuc a) e = (zero-le, omega arith)

-- the opposite of a difference
pub neg_difference : (a b : ℤ) → neg_ℤ (a -ℤ b) ≡ b -ℤ a
neg_difference a b = neg_ℤ-+ℤ a (neg_ℤ b) ∙ rw (neg_ℤ-neg_ℤ b) (+ℤ_comm (neg_ℤ a) b)

-- a difference added to what was taken off
pub difference_back : (a b : ℤ) → b +ℤ (a -ℤ b) ≡ a
difference_back a b = +ℤ_comm b (a -ℤ b) ∙ -ℤ-+ℤ_cancel a b

-- a natural added to a difference of two
pub difference_more : (a b c : ℕ) → pos a -ℤ pos b +ℤ pos c ≡ pos (a + c) -ℤ pos b
difference_more a b c =
    +ℤ_assoc (pos a) (neg_ℤ (pos b)) (pos c) ∙ rw (+ℤ_comm (neg_ℤ (pos b)) (pos c)) (sym (+ℤ_assoc (pos a) (pos c) (neg_ℤ (pos b))))

-- what fits 64 bits
pub fits_64 : (a : ℤ) → plus a < 9223372036854775808 → minus a ≤ 9223372036854775808 → SFits w64 a
unfolding plus minus
fits_64 (pos n) h l = record { sfits = h }
fits_64 (negsuc n) h l = record { sfits = l }

-- a difference of two naturals below the limit
pub difference_fits : (m n : ℕ) → m < 9223372036854775808 → n < 9223372036854775808 → SFits w64 (pos m -ℤ pos n)
unfolding plus minus
difference_fits m n h l =
    let near = difference_within m n m n (omega arith) (omega arith) in
    let high = near.0 in
    let low = near.1 in
    fits_64 (pos m -ℤ pos n) (omega arith) (omega arith)

-- the order
pub le_parts : (a b : ℤ) → le_z a b ≡ true → plus a + minus b ≤ plus b + minus a
unfolding plus minus
le_parts (pos a) (pos b) h = let e = leb-true a b h in omega arith
le_parts (pos a) (negsuc b) h = absurd (false≢true h)
le_parts (negsuc a) (pos b) h = zero-le
le_parts (negsuc a) (negsuc b) h = let e = leb-true b a h in omega arith

pub parts_le : (a b : ℤ) → plus a + minus b ≤ plus b + minus a → le_z a b ≡ true
unfolding plus minus
parts_le (pos a) (pos b) h = le-leb a b (omega arith)
parts_le (pos a) (negsuc b) h = absurd (omega arith)
parts_le (negsuc a) (pos b) h = refl
parts_le (negsuc a) (negsuc b) h = le-leb b a (omega arith)

pub ≤ℤ-antisymm : (a b : ℤ) → a ≤ℤ b → b ≤ℤ a → a ≡ b
≤ℤ-antisymm (pos a) (pos b) h g = ap pos (le_antisymm (leb→le a b h.le) (leb→le b a g.le))
≤ℤ-antisymm (pos a) (negsuc b) h g = absurd h.le
≤ℤ-antisymm (negsuc a) (pos b) h g = absurd g.le
≤ℤ-antisymm (negsuc a) (negsuc b) h g = ap negsuc (le_antisymm (leb→le a b g.le) (leb→le b a h.le))

-- differences of naturals, by sums
pub difference_le : (a b c d : ℕ) → a + d ≤ c + b → (pos a -ℤ pos b) ≤ℤ (pos c -ℤ pos d)
unfolding plus minus
difference_le a b c d h =
    let mine = plus_difference (pos a) (pos b) in
    let other = plus_difference (pos c) (pos d) in
    le_z_yes (subst T (sym (parts_le (pos a -ℤ pos b) (pos c -ℤ pos d) (omega arith))) tt)

pub difference_same : (a b c d : ℕ) → a + d ≡ c + b → pos a -ℤ pos b ≡ pos c -ℤ pos d
difference_same a b c d e =
    ≤ℤ-antisymm (pos a -ℤ pos b) (pos c -ℤ pos d) (difference_le a b c d (le_of_eq e)) (difference_le c d a b (le_of_eq (sym e)))

pub difference_only : (a b c : ℕ) → pos a -ℤ pos c ≡ pos b -ℤ pos c → a ≡ b
unfolding plus
difference_only a b c e =
    let back : pos a ≡ pos b = sym (-ℤ-+ℤ_cancel (pos a) (pos c)) ∙ (ap (λ (z : ℤ). z +ℤ pos c) e ∙ -ℤ-+ℤ_cancel (pos b) (pos c)) in
    ap plus back

leb-not-ltb : (a b : ℕ) → leb b a ≡ not (ltb a b)
leb-not-ltb a b = go (ltb a b) refl
  where
    go : (t : Bool) → ltb a b ≡ t → leb b a ≡ not t
    go true e = lt-leb b a (ltb-true a b e)
    go false e = le-leb b a (ltb-false a b e)

pub le_not_lt : (a b : ℤ) → le_z b a ≡ not (lt_z a b)
le_not_lt (pos a) (pos b) = leb-not-ltb a b
le_not_lt (pos a) (negsuc b) = refl
le_not_lt (negsuc a) (pos b) = refl
le_not_lt (negsuc a) (negsuc b) = leb-not-ltb b a
