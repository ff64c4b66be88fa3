-- The legs in order: how many there are, the index of each, and lists that have an entry for each.
-- Assumes nothing.
use Prim.Native.Nat.{ℕ, zero, suc, ◌+◌, ◌-◌, ◌*◌, ◌<◌, ◌≤◌, zero-le, suc-le-suc}
use mathlib.Core.List.{List, ◌++◌, map, map-append}
use mathlib.Core.Logic.{⊎_elim}
use mathlib.Core.Path.{◌≡◌, refl, sym, ap, ap₂, subst, ◌∙◌}
use borrow.Author.Tests.{le-leb, lt-leb}
use lib.ListN.{length, get_or, take, length-append, get_or-append}
use lib.Seq.{take-add}
use native.Mathlib.Decide.{dec_lt}
use native.Mathlib.Nat.{mul_comm, mul-suc, add-mul-div_right, zero-lt-suc, not-suc-le-zero, le_of_suc-le-suc, le_of_lt, le_refl, eq-or-lt_of_le}
use native.Mathlib.Numerals.{add-one, sub-one}
use native.Mathlib.Omega.{arith}
use Rattle.base.specs.Lists.{up_to}
use Rattle.base.proofs.Lists.{length-up_to, get_or-up_to, get_or_behind, up_to-same, map-up_to, part_up_to}
use Rattle.road.specs.Table.{most_places, most_legs, leg_count, in_order, leg_index, legs_of}

twice : (w : ℕ) → suc (suc w) * suc w ≡ suc w * w + suc w * 2
twice w = mul_comm (suc (suc w)) (suc w) ∙ mul-suc (suc w) (suc w) ∙ ap (λ (p : ℕ). p + suc w) (mul-suc (suc w) w) ∙ omega arith

-- each place has a leg from every earlier one
pub leg_count-suc : (v : ℕ) → leg_count (suc v) ≡ leg_count v + v
unfolding leg_count
leg_count-suc zero = refl
leg_count-suc (suc w) =
    rw (sub-one (suc (suc w)), sub-one (suc w), twice w) (add-mul-div_right (suc w * w) (suc w) (zero-lt-suc 1))

pub leg_count_more : (v : ℕ) → leg_count (v + 1) ≡ leg_count v + v
leg_count_more v = rw add-one (leg_count-suc v)

pub no_legs : leg_count 0 ≡ 0
unfolding leg_count
no_legs = refl

pub all_legs : leg_count most_places ≡ most_legs
unfolding leg_count
all_legs = refl

-- the legs to v come before those to a later place
pub legs_before : (v n : ℕ) → v < n → leg_count v + v ≤ leg_count n
legs_before v zero p = absurd (not-suc-le-zero p)
legs_before v (suc n) p =
    ⊎_elim (λ (e : v ≡ n). omega (arith, ap leg_count e, leg_count-suc n)) (λ (l : v < n). omega (arith, legs_before v n l, leg_count-suc n))
    (eq-or-lt_of_le (le_of_suc-le-suc p))

pub leg_count_most : (n : ℕ) → n ≤ most_places → leg_count n ≤ most_legs
leg_count_most n p =
    ⊎_elim (λ (e : n ≡ most_places). omega (arith, ap leg_count e, all_legs)) (λ (l : n < most_places). omega (arith, legs_before n most_places l, all_legs)) (eq-or-lt_of_le p)

-- every index below the number of legs is a leg's
pub each_leg : (P : ℕ → Type 0) (n : ℕ) → ((u v : ℕ) → u < v → v < n → P (leg_index u v)) → (i : ℕ) → i < leg_count n → P i
each_leg P zero all i lt = absurd (omega (arith, no_legs))
each_leg P (suc n) all i lt = either (λ before. each_leg P n (λ u v p q. all u v p (omega arith)) i before) (dec_lt i (leg_count n))
  where
    either : (i < leg_count n → P i) → Dec (i < leg_count n) → P i
    either below (yes before) = below before
    either below (no past) =
        let u : ℕ = i - leg_count n in
        subst P (omega arith) (all u n (omega (arith, leg_count-suc n)) (omega arith))

-- the legs of a table that may be
pub legs_counted : (n : ℕ) → n ≤ most_places → legs_of n ≡ leg_count n
legs_counted n p = rw (le-leb n most_places p)

-- no table has more than the most legs
pub legs_most : (n : ℕ) → legs_of n ≤ most_legs
legs_most n = either (dec_lt most_places n)
  where
    either : Dec (most_places < n) → legs_of n ≤ most_legs
    either (yes more) = rw (lt-leb n most_places more) zero-le
    either (no few) = let le : n ≤ most_places = omega arith in rw (legs_counted n le) (leg_count_most n le)

module _ {A : Type 0} (f : ℕ → ℕ → A) where
  pub in_order_more : (v : ℕ) → in_order f (v + 1) ≡ in_order f v ++ up_to v (λ u. f u v)
  unfolding in_order
  in_order_more v = rw add-one

  pub length-in_order : (n : ℕ) → length (in_order f n) ≡ leg_count n
  unfolding in_order leg_count
  length-in_order zero = refl
  length-in_order (suc v) =
      length-append (in_order f v) _ ∙ rw (length-in_order v, length-up_to v (λ u. f u v)) (sym (leg_count-suc v))

  -- each entry at its index
  pub in_order-at : (z : A) (n u v : ℕ) → u < v → v < n → get_or (in_order f n) (leg_index u v) z ≡ f u v
  unfolding in_order
  in_order-at z zero u v p q = absurd (not-suc-le-zero q)
  in_order-at z (suc n) u v p q =
      ⊎_elim
      (λ (e : v ≡ n). subst (λ (w : ℕ). get_or (in_order f n ++ up_to n (λ x. f x n)) (leg_index u w) z ≡ f u w) (sym e)
      (get_or_behind (in_order f n) _ (leg_count n) u z (length-in_order n) ∙ get_or-up_to n _ u z (rw e at p)))
      (λ (l : v < n). get_or-append (in_order f n) _ z _ (omega (arith, length-in_order n, legs_before v n l)) ∙ in_order-at z n u v p l)
      (eq-or-lt_of_le (le_of_suc-le-suc q))

  -- a list that has them there begins with them
  pub in_order_out : (z : A) (all : List A) (n : ℕ) → ((u v : ℕ) → u < v → v < n → get_or all (leg_index u v) z ≡ f u v) → leg_count n ≤ length all
      → take (leg_count n) all ≡ in_order f n
  unfolding in_order leg_count
  in_order_out z all zero h le = refl
  in_order_out z all (suc n) h le =
      let e : leg_count (suc n) ≡ leg_count n + n = leg_count-suc n in
      rw (e, take-add (leg_count n) n all)
      (ap₂ (λ (x y : List A). x ++ y) (in_order_out z all n (λ u v p q. h u v p (le_of_lt (suc-le-suc q))) (omega arith))
      (part_up_to n all (leg_count n) z (omega arith) ∙ up_to-same n _ _ (λ u p. h u n p (le_refl (suc n)))))

-- each entry by a rule
pub map-in_order : {A B : Type 0} (g : A → B) (f : ℕ → ℕ → A) (n : ℕ) → map g (in_order f n) ≡ in_order (λ u v. g (f u v)) n
unfolding in_order
map-in_order g f zero = refl
map-in_order g f (suc v) = map-append g (in_order f v) _ ∙ rw (map-in_order g f v, map-up_to g v (λ u. f u v))
