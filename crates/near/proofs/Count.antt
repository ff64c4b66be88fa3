-- The laws of the numbers that pass a test: how many, and the lowest.
-- Assumes nothing.
use Prim.Native.Nat.{ℕ, zero, suc, ◌+◌, ◌<◌, ◌≤◌, zero-le, suc-le-suc}
use mathlib.Core.Bool.{Bool, true, false, cond}
use mathlib.Core.List.{List, ◌∷◌}
use mathlib.Core.Logic.{⊎_elim}
use Rattle.std.proofs.Common.{Option, Some, None}
use mathlib.Core.Path.{◌≡◌, refl, sym, ap, ◌∙◌}
use lib.ListN.{length, get_or}
use native.Mathlib.Nat.{mul-one, not-suc-le-zero, le_of_suc-le-suc, eq-or-lt_of_le, le_refl, zero-add}
use native.Mathlib.Omega.{arith}
use Rattle.std.specs.List.{count_by, range_with_len}
use Rattle.std.specs.Option.{MatchOption, unwrap_or}
use Rattle.std.proofs.lemmas.List.FromFn.{length-range_with_len, get_or-range_with_len}
use Rattle.std.proofs.lemmas.List.Recursion.{is_count_by}
use Rattle.workfunction.specs.Lists.{sum_below}
use Rattle.workfunction.proofs.Sums.{sum_same, sum_first, sum_most, sum-zero}
use Rattle.near.specs.Count.{count, first}

-- 1 at most for each number
pub bit_most : (b : Bool) → cond b 1 0 ≤ 1
bit_most true = le_refl 1
bit_most false = zero-le

module _ (P : ℕ → Bool) where
  pub count_most : (n : ℕ) → count n P ≤ n
  unfolding count
  count_most n = let most = sum_most n 1 (λ i. cond (P i) 1 0) (λ i h. bit_most (P i)) in rw mul-one at most

  pub count-first : (n : ℕ) → count (suc n) P ≡ cond (P 0) 1 0 + count n (λ i. P (suc i))
  unfolding count
  count-first n = sum_first n (λ i. cond (P i) 1 0)

  pub count_none : (n : ℕ) → ((i : ℕ) → i < n → P i ≡ false) → count n P ≡ 0
  unfolding count
  count_none n none = sum_same n _ (λ i. 0) (λ i h. rw (none i h)) ∙ sum-zero n

  -- none passes from n on
  pub count_wider : (n m : ℕ) → n ≤ m → ((i : ℕ) → n ≤ i → i < m → P i ≡ false) → count m P ≡ count n P
  unfolding count sum_below
  count_wider zero zero le none = refl
  count_wider (suc n) zero le none = absurd (not-suc-le-zero le)
  count_wider n (suc m) le none =
      ⊎_elim (λ (e : n ≡ suc m). rw e)
      (λ (l : n < suc m). let before = count_wider n m (le_of_suc-le-suc l) (λ i h lt. none i h (omega arith)) in
      rw (none m (le_of_suc-le-suc l) (le_refl (suc m))) (omega arith)) (eq-or-lt_of_le le)

-- those whose entries in a list pass
pub count_list : (P : ℕ → Bool) (xs : List ℕ) → count_by P xs ≡ count (length xs) (λ i. P (get_or xs i 0))
count_list P xs = sym (is_count_by (λ ys. count (length ys) (λ i. P (get_or ys i 0))) P (count_none _ 0 (λ i h. absurd (not-suc-le-zero h))) first xs)
  where
    first : (x : ℕ) (ys : List ℕ) → count (suc (length ys)) (λ i. P (get_or (x ∷ ys) i 0)) ≡ cond (P x) (1 + count (length ys) (λ i. P (get_or ys i 0))) (count (length ys) (λ i. P (get_or ys i 0)))
    first x ys = count-first (λ i. P (get_or (x ∷ ys) i 0)) (length ys) ∙ go (P x)
      where
        go : (b : Bool) → cond b 1 0 + count (length ys) (λ i. P (get_or ys i 0)) ≡ cond b (1 + count (length ys) (λ i. P (get_or ys i 0))) (count (length ys) (λ i. P (get_or ys i 0)))
        go true = refl
        go false = omega arith

-- those of a range
pub count_range : (P : ℕ → Bool) (n : ℕ) → count_by P (range_with_len 0 n) ≡ count n P
unfolding count
count_range P n =
    count_list P (range_with_len 0 n)
    ∙ rw (length-range_with_len 0 n) (sum_same n _ _ (λ i h. rw (get_or-range_with_len 0 n i 0 h, zero-add i)))

-- ---- the lowest

pub first_most : (n : ℕ) (P : ℕ → Bool) → first n P ≤ n
unfolding first
first_most zero P = zero-le
first_most (suc n) P = go (P 0) (first_most n (λ i. P (suc i)))
  where
    go : (b : Bool) → first n (λ i. P (suc i)) ≤ n → cond b 0 (suc (first n (λ i. P (suc i)))) ≤ suc n
    go true rest = zero-le
    go false rest = suc-le-suc rest

-- one that passes with none below it
pub first_found : (n : ℕ) (P : ℕ → Bool) (s : ℕ) → s < n → P s ≡ true → ((t : ℕ) → t < s → P t ≡ false) → first n P ≡ s
unfolding first
first_found zero P s lt here below = absurd (not-suc-le-zero lt)
first_found (suc n) P zero lt here below = rw here
first_found (suc n) P (suc s) lt here below =
    rw (below 0 (suc-le-suc zero-le)) (ap suc (first_found n (λ i. P (suc i)) s (le_of_suc-le-suc lt) here (λ t h. below (suc t) (suc-le-suc h))))

pub first-none : (n : ℕ) (P : ℕ → Bool) → ((t : ℕ) → t < n → P t ≡ false) → first n P ≡ n
unfolding first
first-none zero P none = refl
first-none (suc n) P none = rw (none 0 (suc-le-suc zero-le)) (ap suc (first-none n (λ i. P (suc i)) (λ t h. none (suc t) (suc-le-suc h))))

pub first_passes : (n : ℕ) (P : ℕ → Bool) → first n P < n → P (first n P) ≡ true
unfolding first
first_passes zero P lt = absurd (not-suc-le-zero lt)
first_passes (suc n) P lt = go (P 0) refl lt (first_passes n (λ i. P (suc i)))
  where
    rest : ℕ
    rest = first n (λ i. P (suc i))

    go : (b : Bool) → P 0 ≡ b → cond b 0 (suc rest) < suc n → (rest < n → P (suc rest) ≡ true) → P (cond b 0 (suc rest)) ≡ true
    go true e h more = e
    go false e h more = more (le_of_suc-le-suc h)

pub first-lowest : (n : ℕ) (P : ℕ → Bool) (t : ℕ) → t < first n P → P t ≡ false
unfolding first
first-lowest zero P t lt = absurd (not-suc-le-zero lt)
first-lowest (suc n) P t lt = go (P 0) refl t lt (first-lowest n (λ i. P (suc i)))
  where
    rest : ℕ
    rest = first n (λ i. P (suc i))

    go : (b : Bool) → P 0 ≡ b → (t : ℕ) → t < cond b 0 (suc rest) → ((t : ℕ) → t < rest → P (suc t) ≡ false) → P t ≡ false
    go true e t h more = absurd (not-suc-le-zero h)
    go false e zero h more = e
    go false e (suc t) h more = more t (le_of_suc-le-suc h)

-- what a search of the numbers below n finds, or n
pub first_told : (n : ℕ) (P : ℕ → Bool) (r : Option ℕ)
    → MatchOption r ((t : ℕ) → 0 ≤ t → t < n → P t ≡ false) (λ s. (0 ≤ s) × (s < n) × (P s ≡ true) × ((t : ℕ) → 0 ≤ t → t < s → P t ≡ false))
    → unwrap_or r n ≡ first n P
first_told n P None none = sym (first-none n P (λ t h. none t zero-le h))
first_told n P (Some s) found = sym (first_found n P s found.1 found.2 (λ t h. found.3 t zero-le h))

-- every number passes from n on
pub first_wider : (n m : ℕ) (P : ℕ → Bool) → n ≤ m → ((i : ℕ) → n ≤ i → i < m → P i ≡ true) → first m P ≡ first n P
unfolding first
first_wider zero zero P le all = refl
first_wider zero (suc m) P le all = rw (all 0 zero-le (suc-le-suc zero-le))
first_wider (suc n) zero P le all = absurd (not-suc-le-zero le)
first_wider (suc n) (suc m) P le all =
    ap (λ (k : ℕ). cond (P 0) 0 (suc k)) (first_wider n m (λ i. P (suc i)) (le_of_suc-le-suc le) (λ i h l. all (suc i) (suc-le-suc h) (suc-le-suc l)))
