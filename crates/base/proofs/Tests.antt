-- The laws of the tests, by which branches show a number within its limits, and loops what holds below a bound.
-- Assumes nothing.
use Prim.Native.Nat.{ℕ, zero, suc, ◌+◌, ◌<◌, ◌≤◌, zero-le, suc-le-suc}
use mathlib.Core.Bool.{Bool, true, false, ◌&&◌, ◌||◌, and-eq-true_iff, and-false, or-false, false≢true}
use mathlib.Core.Logic.{◌⊎◌, inl, inr, ⊎_elim}
use mathlib.Core.Path.{◌≡◌, refl, sym, subst, ap₂, ◌∙◌}
use borrow.Author.Tests.{le-leb, leb-true, lt-ltb, le-ltb, eq-eqb, ne_eqb}
use lib.Dec.{leb, ltb, eqb}
use native.Mathlib.Decide.{ℕ_discrete, dec_lt}
use native.Mathlib.Nat.{not-suc-le-zero, eq-or-lt_of_le, le_of_suc-le-suc, le_antisymm, le_of_lt, le_refl}
use native.Mathlib.Numerals.{add-one}
use native.Mathlib.Omega.{arith}
use Rattle.base.specs.Tests.{within, all_below}

-- which of two numbers is the lower
pub by_order : (u v : ℕ) {P : Type 0} → (u < v → P) → (u ≡ v → P) → (v < u → P) → P
by_order u v {P} lower same higher = pick (dec_lt u v) (ℕ_discrete u v)
  where
    pick : Dec (u < v) → Dec (u ≡ v) → P
    pick (yes l) _ = lower l
    pick (no n) (yes e) = same e
    pick (no n) (no m) = higher (omega arith)

-- what holds below i and of i holds below the next
pub one_more : (P : ℕ → Type 0) (i : ℕ) → P i → ((t : ℕ) → t < i → P t) → (t : ℕ) → t < i + 1 → P t
one_more P i last below t lt = pick (ℕ_discrete t i)
  where
    pick : Dec (t ≡ i) → P t
    pick (yes e) = subst P (sym e) last
    pick (no n) = below t (omega arith)

-- a first key decides where two differ by it, and the rest among equals
module _ (a b : ℕ) (rest : Bool) where
  abbrev below : Bool
  below = ltb a b || (eqb a b && rest)

  pub key_lower : a < b → below ≡ true
  key_lower h = rw (lt-ltb a b h)

  pub key_tied : a ≡ b → below ≡ rest
  key_tied e = rw (le-ltb a b (omega arith), eq-eqb a b e)

  pub key_untied : (a ≡ b → ⊥) → below ≡ ltb a b
  key_untied n = rw (ne_eqb a b n) (or-false (ltb a b))

  pub key_higher : b < a → below ≡ false
  key_higher h = key_untied (λ e. omega arith) ∙ le-ltb a b (omega arith)

  pub key_told : below ≡ true → (a < b) ⊎ ((a ≡ b) × (rest ≡ true))
  key_told h = by_order a b inl (λ e. inr (e, sym (key_tied e) ∙ h)) (λ l. absurd (false≢true (sym (key_higher l) ∙ h)))

module _ (lo hi n : ℕ) where
  pub within_yes : lo ≤ n → n ≤ hi → within lo hi n ≡ true
  unfolding within
  within_yes p q = rw (le-leb lo n p, le-leb n hi q)

  pub within_least : within lo hi n ≡ true → lo ≤ n
  unfolding within
  within_least h = leb-true lo n ((and-eq-true_iff (leb lo n) (leb n hi)).0 h).0

  pub within_most : within lo hi n ≡ true → n ≤ hi
  unfolding within
  within_most h = leb-true n hi ((and-eq-true_iff (leb lo n) (leb n hi)).0 h).1

module _ (P : ℕ → Bool) where
  pub below_at : (n : ℕ) → all_below n P ≡ true → (i : ℕ) → i < n → P i ≡ true
  unfolding all_below
  below_at zero all i lt = absurd (not-suc-le-zero lt)
  below_at (suc n) all i lt =
      let now = (and-eq-true_iff (all_below n P) (P n)).0 all in
      ⊎_elim (λ e. subst (λ (k : ℕ). P k ≡ true) (sym e) now.1) (λ (l : i < n). below_at n now.0 i l)
      (eq-or-lt_of_le (le_of_suc-le-suc lt))

  pub below_fails : (n i : ℕ) → i < n → P i ≡ false → all_below n P ≡ false
  unfolding all_below
  below_fails zero i lt h = absurd (not-suc-le-zero lt)
  below_fails (suc n) i lt h =
      ⊎_elim (λ e. rw (subst (λ (k : ℕ). P k ≡ false) e h) (and-false (all_below n P))) (λ (l : i < n). rw (below_fails n i l h))
      (eq-or-lt_of_le (le_of_suc-le-suc lt))

pub below_all : (P : ℕ → Bool) (n : ℕ) → ((i : ℕ) → i < n → P i ≡ true) → all_below n P ≡ true
unfolding all_below
below_all P zero h = refl
below_all P (suc n) h = rw (below_all P n (λ i p. h i (le_of_lt (suc-le-suc p)))) (h n (le_refl (suc n)))

-- tests that agree below n agree of all the numbers there
pub below_same : (P Q : ℕ → Bool) (n : ℕ) → ((i : ℕ) → i < n → P i ≡ Q i) → all_below n P ≡ all_below n Q
unfolding all_below
below_same P Q zero same = refl
below_same P Q (suc n) same =
    ap₂ ◌&&◌ (below_same P Q n (λ i lt. same i (le_of_lt (suc-le-suc lt)))) (same n (le_refl (suc n)))

-- the invariant of a loop over the numbers below n that stops at the first for which P fails; i is the next
pub record Passed (n : ℕ) (P : ℕ → Bool) (i : ℕ) : Type 0 where
  pub most : i ≤ n
  pub all : all_below i P ≡ true

module _ (n : ℕ) (P : ℕ → Bool) where
  pub begun : Passed n P 0
  unfolding all_below
  begun = record { most = zero-le; all = refl }

  pub turned : (i : ℕ) → Passed n P i → i < n → P i ≡ true → Passed n P (i + 1)
  unfolding all_below
  turned i p lt here = record { most = omega arith; all = rw (add-one, p.all) here }

  pub ended : (i : ℕ) → Passed n P i → n ≤ i → all_below n P ≡ true
  ended i p le = subst (λ (k : ℕ). all_below k P ≡ true) (le_antisymm p.most le) p.all
