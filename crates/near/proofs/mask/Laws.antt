-- A set of numbers below k as a word: one more number set, how many are set, and the lowest that is not.
-- Assumes nothing.
use Prim.Native.Nat.{ℕ, zero, suc, ◌+◌, ◌-◌, ◌*◌, ◌/◌, ◌%◌, ◌^◌, ◌<◌, ◌≤◌, max, zero-le, suc-le-suc}
use mathlib.Core.Bool.{Bool, true, false, cond, ◌||◌, not, or-false, or_assoc}
use mathlib.Core.List.{List, [], ◌∷◌, ◌++◌}
use mathlib.Core.Path.{◌≡◌, refl, sym, ap, ap₂, ◌∙◌}
use borrow.Author.Tests.{eq-eqb, ne_eqb}
use lib.Bits.{bit_or, or_step, or_zero_r}
use lib.Count.{ones, ones_step, ones-ones, count_trailing_zeros, under, trailing_of_zero}
use lib.Dec.{eqb}
use lib.ListN.{length, get_or, take}
use lib.Pow.{pow-lt}
use lib.Seq.{take-suc, take_all}
use native.Mathlib.Decide.{ℕ_discrete}
use native.Mathlib.Nat.{one-mul, mod-eq_of_lt, pow-suc, zero-lt-suc, not-suc-le-zero, le_of_suc-le-suc}
use native.Mathlib.Numerals.{add-one}
use native.Mathlib.Omega.{arith}
use Rattle.road.specs.Table.{most_places}
use Rattle.workfunction.specs.Movement.{contains}
use Rattle.near.specs.Count.{count, first}
use Rattle.near.specs.Mask.{mask_of}
use Rattle.near.proofs.Count.{count-first, count_none}

-- the lowest digit, and the others
half : (r : ℕ) (b : Bool) → (r * 2 + cond b 1 0) / 2 ≡ r
half r true = omega arith
half r false = omega arith

odd : (r : ℕ) (b : Bool) → (r * 2 + cond b 1 0) % 2 ≡ cond b 1 0
odd r true = omega arith
odd r false = omega arith

mask_none : (k : ℕ) → mask_of k (λ i. false) ≡ 0
unfolding mask_of
mask_none zero = refl
mask_none (suc k) = rw (mask_none k)

-- sets that agree below k
mask_same : (k : ℕ) (P Q : ℕ → Bool) → ((i : ℕ) → i < k → P i ≡ Q i) → mask_of k P ≡ mask_of k Q
unfolding mask_of
mask_same zero P Q e = refl
mask_same (suc k) P Q e = rw (mask_same k (λ i. P (suc i)) (λ i. Q (suc i)) (λ i h. e (suc i) (suc-le-suc h)), e 0 (zero-lt-suc k))

pub mask_below : (k : ℕ) (P : ℕ → Bool) → mask_of k P < 2 ^ k
unfolding mask_of
mask_below zero P = zero-lt-suc 0
mask_below (suc k) P = go (P 0) (mask_below k (λ i. P (suc i)))
  where
    go : (b : Bool) → mask_of k (λ i. P (suc i)) < 2 ^ k → mask_of k (λ i. P (suc i)) * 2 + cond b 1 0 < 2 ^ suc k
    go true h = rw (pow-suc 2 k) (omega arith)
    go false h = rw (pow-suc 2 k) (omega arith)

-- ---- the answers

-- the digits set
pub mask_ones : (k : ℕ) (P : ℕ → Bool) → ones (mask_of k P) ≡ count k P
unfolding ones mask_of
mask_ones zero P = sym (count_none P 0 (λ i h. absurd (not-suc-le-zero h)))
mask_ones (suc k) P =
    let rest = mask_of k (λ i. P (suc i)) in
    ones_step (rest * 2 + cond (P 0) 1 0) ∙ ap₂ (λ (x y : ℕ). x + ones y) (odd rest (P 0)) (half rest (P 0))
    ∙ ap (λ (x : ℕ). cond (P 0) 1 0 + x) (mask_ones k (λ i. P (suc i))) ∙ sym (count-first P k)

-- the complement
pub mask_not : (k : ℕ) (P : ℕ → Bool) → (2 ^ k - 1) - mask_of k P ≡ mask_of k (λ i. not (P i))
unfolding mask_of
mask_not zero P = refl
mask_not (suc k) P = go (P 0) (mask_below k (λ i. P (suc i))) (mask_not k (λ i. P (suc i)))
  where
    go : (b : Bool) → mask_of k (λ i. P (suc i)) < 2 ^ k → (2 ^ k - 1) - mask_of k (λ i. P (suc i)) ≡ mask_of k (λ i. not (P (suc i)))
        → (2 ^ suc k - 1) - (mask_of k (λ i. P (suc i)) * 2 + cond b 1 0) ≡ mask_of k (λ i. not (P (suc i))) * 2 + cond (not b) 1 0
    go true h e = rw (pow-suc 2 k, ← e) (omega arith)
    go false h e = rw (pow-suc 2 k, ← e) (omega arith)

-- the zeros below the lowest digit set: all k where none is
pub mask_first : (k : ℕ) (P : ℕ → Bool) → count_trailing_zeros k (mask_of k P) ≡ first k P
unfolding count_trailing_zeros first mask_of
mask_first zero P = refl
mask_first (suc k) P =
    let rest = mask_of k (λ i. P (suc i)) in
    ap₂ (λ (x y : ℕ). under x (count_trailing_zeros k y)) (odd rest (P 0)) (half rest (P 0))
    ∙ ap (λ (x : ℕ). under (cond (P 0) 1 0) x) (mask_first k (λ i. P (suc i))) ∙ go (P 0)
  where
    go : (b : Bool) → under (cond b 1 0) (first k (λ i. P (suc i))) ≡ cond b 0 (suc (first k (λ i. P (suc i))))
    go true = refl
    go false = refl

-- the lowest number that is not in the set
pub mask_free : (k : ℕ) (P : ℕ → Bool) → count_trailing_zeros k ((2 ^ k - 1) - mask_of k P) ≡ first k (λ i. not (P i))
mask_free k P = ap (count_trailing_zeros k) (mask_not k P) ∙ mask_first k (λ i. not (P i))

-- of all numbers below k: k digits set, and no zero among them, k being the width of a word too
pub mask_full : (k : ℕ) (P : ℕ → Bool) → ((i : ℕ) → i < k → P i ≡ true)
    → (mask_of k P ≡ 2 ^ k - 1) × (ones (mask_of k P) ≡ k) × (count_trailing_zeros k ((2 ^ k - 1) - mask_of k P) ≡ k)
mask_full k P all =
    let none = mask_not k P ∙ mask_same k _ (λ i. false) (λ i h. rw (all i h)) ∙ mask_none k in
    let below = mask_below k P in
    let full : mask_of k P ≡ 2 ^ k - 1 = omega arith in
    (full, ap ones full ∙ ones-ones k, ap (count_trailing_zeros k) none ∙ trailing_of_zero k)

-- ---- one more number

eqb-suc : (i p : ℕ) → eqb i p ≡ eqb (suc i) (suc p)
eqb-suc i p = go (ℕ_discrete i p)
  where
    go : Dec (i ≡ p) → eqb i p ≡ eqb (suc i) (suc p)
    go (yes e) = eq-eqb i p e ∙ sym (eq-eqb (suc i) (suc p) (ap suc e))
    go (no n) = ne_eqb i p n ∙ sym (ne_eqb (suc i) (suc p) (λ e. n (omega arith)))

pub mask_or : (k : ℕ) (P : ℕ → Bool) (p : ℕ) → p < k → bit_or (mask_of k P) (2 ^ p) ≡ mask_of k (λ i. P i || eqb i p)
unfolding mask_of
mask_or zero P p h = absurd (not-suc-le-zero h)
mask_or (suc k) P zero h =
    let rest = mask_of k (λ i. P (suc i)) in
    or_step (rest * 2 + cond (P 0) 1 0) 1
    ∙ ap₂ (λ (x y : ℕ). bit_or x 0 * 2 + max y 1) (half rest (P 0)) (odd rest (P 0))
    ∙ ap₂ (λ (x y : ℕ). x * 2 + y) (or_zero_r rest ∙ mask_same k _ _ (λ i h. sym (or-false (P (suc i))) ∙ ap (λ (b : Bool). P (suc i) || b) (sym (ne_eqb (suc i) 0 (λ e. omega arith))))) (high (P 0))
  where
    high : (b : Bool) → max (cond b 1 0) 1 ≡ cond (b || true) 1 0
    high true = refl
    high false = refl
mask_or (suc k) P (suc p) h =
    let rest = mask_of k (λ i. P (suc i)) in
    or_step (rest * 2 + cond (P 0) 1 0) (2 ^ suc p)
    ∙ ap₂ (λ (x y : ℕ). bit_or x (2 ^ suc p / 2) * 2 + max y (2 ^ suc p % 2)) (half rest (P 0)) (odd rest (P 0))
    ∙ ap₂ (λ (x y : ℕ). bit_or rest x * 2 + max (cond (P 0) 1 0) y) (ap (λ (x : ℕ). x / 2) (pow-suc 2 p) ∙ halved) (ap (λ (x : ℕ). x % 2) (pow-suc 2 p) ∙ even)
    ∙ ap₂ (λ (x y : ℕ). x * 2 + y) (mask_or k (λ i. P (suc i)) p (le_of_suc-le-suc h) ∙ mask_same k _ _ (λ i h. ap (λ (b : Bool). P (suc i) || b) (eqb-suc i p))) (low (P 0) ∙ ap (λ (b : Bool). cond (P 0 || b) 1 0) (sym (ne_eqb 0 (suc p) (λ e. omega arith))))
  where
    halved : 2 ^ p * 2 / 2 ≡ 2 ^ p
    halved = omega arith

    even : 2 ^ p * 2 % 2 ≡ 0
    even = omega arith

    low : (b : Bool) → max (cond b 1 0) 0 ≡ cond (b || false) 1 0
    low true = refl
    low false = refl

-- ---- a list of places

contains_snoc : (p : ℕ) (l : List ℕ) (a : ℕ) → contains p (l ++ (a ∷ [])) ≡ (contains p l || eqb p a)
unfolding contains
contains_snoc p [] a = or-false (eqb p a)
contains_snoc p (b ∷ l) a = rw (contains_snoc p l a) (sym (or_assoc (eqb p b) (contains p l) (eqb p a)))

-- the invariant of the loop that sets a bit for each: i is the next
pub record Masked (places : List ℕ) (mask i : ℕ) : Type 0 where
  pub most : i ≤ length places
  pub same : mask ≡ mask_of most_places (λ p. contains p (take i places))

module _ (places : List ℕ) where
  pub mask_begun : Masked places 0 0
  unfolding contains
  mask_begun = record { most = zero-le; same = sym (mask_none most_places) }

  pub mask_turned : (mask i : ℕ) → Masked places mask i → i < length places → get_or places i 0 < most_places
      → Masked places (bit_or mask (1 * 2 ^ get_or places i 0 % 2 ^ most_places)) (i + 1)
  mask_turned mask i m lt below =
      record {
        most = omega arith;
        same =
            rw (m.same, one-mul (2 ^ get_or places i 0), mod-eq_of_lt (pow-lt below)) (mask_or most_places (λ p. contains p (take i places)) (get_or places i 0) below
            ∙ mask_same most_places _ _ (λ p h. sym (rw (add-one i, take-suc places i 0 lt) (contains_snoc p (take i places) (get_or places i 0)))));
      }

  pub mask_ended : (mask i : ℕ) → Masked places mask i → length places ≤ i → mask ≡ mask_of most_places (λ p. contains p places)
  mask_ended mask i m le = m.same ∙ rw (take_all i places le)
