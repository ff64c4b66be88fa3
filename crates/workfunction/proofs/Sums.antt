-- Sums over a list and over the numbers below a bound, and the entries of a list: by slot, replaced, in another order.
-- Assumes nothing.
use Prim.Native.Nat.{ℕ, zero, suc, ◌+◌, ◌*◌, ◌<◌, ◌≤◌, zero-le, suc-le-suc}
use mathlib.Core.Bool.{Bool, true, false, cond}
use mathlib.Core.List.Memᴰ
use mathlib.Core.List.{List, [], ◌∷◌, Memᴰ}
use mathlib.Core.List.{Permᴰ}
use mathlib.Core.Logic.{◌⊎◌, inr, ⊎_elim, ⊎_map}
use mathlib.Core.Path.{◌≡◌, refl, sym, ap, ◌∙◌}
use borrow.Author.Tests.{eq-eqb, ne_eqb}
use lib.Dec.{eqb}
use lib.ListN.{length, get_or, set}
use native.Mathlib.Decide.{ℕ_discrete}
use native.Mathlib.Nat.{zero-add, add-zero, zero-mul, one-mul, suc-mul, add-mul, le_refl, lt_irrefl, not-suc-le-zero, le_of_suc-le-suc, eq-or-lt_of_le}
use native.Mathlib.Numerals.{add-one}
use native.Mathlib.Omega.{arith}
use Rattle.base.specs.Lists.{up_to}
use Rattle.workfunction.specs.Lists.{sum_below}

-- ---- lists

-- the sum of f over a list
unfoldable pub total : (ℕ → ℕ) → List ℕ → ℕ
total f [] = 0
total f (t ∷ T) = f t + total f T

pub total_order : (f : ℕ → ℕ) {T U : List ℕ} → Permᴰ T U → total f T ≡ total f U
unfolding total
total_order f Permᴰ.nil = refl
total_order f (Permᴰ.cons e p) = rw (e, total_order f p)
total_order f (Permᴰ.swap e g) = rw (← e, ← g) (omega arith)
total_order f (Permᴰ.trans p q) = total_order f p ∙ total_order f q

pub total_set : (f : ℕ → ℕ) (T : List ℕ) (j i : ℕ) → j < length T → total f (set T j i) + f (get_or T j 0) ≡ total f T + f i
unfolding total
total_set f [] j i h = absurd (not-suc-le-zero h)
total_set f (t ∷ T) zero i h = omega arith
total_set f (t ∷ T) (suc j) i h = let more = total_set f T j i (le_of_suc-le-suc h) in omega arith

pub total_same : (f g : ℕ → ℕ) (T : List ℕ) → ((t : ℕ) → Memᴰ t T → f t ≡ g t) → total f T ≡ total g T
unfolding total
total_same f g [] same = refl
total_same f g (t ∷ T) same = rw (same t (Memᴰ.head refl), total_same f g T (λ u m. same u (Memᴰ.tail m)))

pub total_none : (f : ℕ → ℕ) (T : List ℕ) → ((t : ℕ) → Memᴰ t T → f t ≡ 0) → total f T ≡ 0
unfolding total
total_none f [] none = refl
total_none f (t ∷ T) none = rw (none t (Memᴰ.head refl), total_none f T (λ u m. none u (Memᴰ.tail m)))

pub total_at : (f : ℕ → ℕ) {t : ℕ} {T : List ℕ} → Memᴰ t T → f t ≤ total f T
unfolding total
total_at f (Memᴰ.head {x} {xs} e) = rw e (omega arith)
total_at f (Memᴰ.tail {x} {xs} m) = let more = total_at f m in omega arith

pub length_order : {A : Type 0} {T U : List A} → Permᴰ T U → length T ≡ length U
length_order Permᴰ.nil = refl
length_order (Permᴰ.cons e p) = ap suc (length_order p)
length_order (Permᴰ.swap e g) = refl
length_order (Permᴰ.trans p q) = length_order p ∙ length_order q

pub in_reordered : {A : Type 0} {a : A} {T U : List A} → Permᴰ T U → Memᴰ a T → Memᴰ a U
in_reordered Permᴰ.nil m = m
in_reordered (Permᴰ.cons e p) (Memᴰ.head q) = Memᴰ.head (q ∙ e)
in_reordered (Permᴰ.cons e p) (Memᴰ.tail m) = Memᴰ.tail (in_reordered p m)
in_reordered (Permᴰ.swap e g) (Memᴰ.head q) = Memᴰ.tail (Memᴰ.head (q ∙ e))
in_reordered (Permᴰ.swap e g) (Memᴰ.tail (Memᴰ.head q)) = Memᴰ.head (q ∙ g)
in_reordered (Permᴰ.swap e g) (Memᴰ.tail (Memᴰ.tail m)) = Memᴰ.tail (Memᴰ.tail m)
in_reordered (Permᴰ.trans p q) m = in_reordered q (in_reordered p m)

-- the slot of an entry, and the entry of a slot
pub slot_of : {a : ℕ} {T : List ℕ} → Memᴰ a T → (j : ℕ) × (j < length T) × (get_or T j 0 ≡ a)
slot_of (Memᴰ.head e) = (0, suc-le-suc zero-le, sym e)
slot_of (Memᴰ.tail m) = let r = slot_of m in (suc r.0, suc-le-suc r.1, r.2)

pub entry_in : (T : List ℕ) (j : ℕ) → j < length T → Memᴰ (get_or T j 0) T
entry_in [] j h = absurd (not-suc-le-zero h)
entry_in (t ∷ T) zero h = Memᴰ.head refl
entry_in (t ∷ T) (suc j) h = Memᴰ.tail (entry_in T j (le_of_suc-le-suc h))

pub set_in : (T : List ℕ) (j i : ℕ) → j < length T → Memᴰ i (set T j i)
set_in [] j i h = absurd (not-suc-le-zero h)
set_in (t ∷ T) zero i h = Memᴰ.head refl
set_in (t ∷ T) (suc j) i h = Memᴰ.tail (set_in T j i (le_of_suc-le-suc h))

-- the others stay
pub set_other : {u : ℕ} (U : List ℕ) (j i : ℕ) → Memᴰ u U → (u ≡ get_or U j 0 → ⊥) → Memᴰ u (set U j i)
set_other [] j i m n = m
set_other (v ∷ U) zero i m n = ⊎_elim (λ e. absurd (n e)) Memᴰ.tail (Memᴰ.cases_cons m)
set_other (v ∷ U) (suc j) i (Memᴰ.head e) n = Memᴰ.head e
set_other (v ∷ U) (suc j) i (Memᴰ.tail m) n = Memᴰ.tail (set_other U j i m n)

pub in_set : (T : List ℕ) (j i : ℕ) {a : ℕ} → Memᴰ a (set T j i) → (a ≡ i) ⊎ Memᴰ a T
in_set [] j i m = inr m
in_set (t ∷ T) zero i m = ⊎_map (λ e. e) Memᴰ.tail (Memᴰ.cases_cons m)
in_set (t ∷ T) (suc j) i (Memᴰ.head e) = inr (Memᴰ.head e)
in_set (t ∷ T) (suc j) i (Memᴰ.tail m) = ⊎_map (λ e. e) Memᴰ.tail (in_set T j i m)

-- ---- numbers below a bound

pub sum_same : (n : ℕ) (f g : ℕ → ℕ) → ((i : ℕ) → i < n → f i ≡ g i) → sum_below n f ≡ sum_below n g
unfolding sum_below
sum_same zero f g same = refl
sum_same (suc n) f g same = rw (sum_same n f g (λ i h. same i (omega arith)), same n (omega arith))

pub sum_last : (n : ℕ) (f : ℕ → ℕ) → sum_below (n + 1) f ≡ sum_below n f + f n
unfolding sum_below
sum_last n f = rw add-one

pub sum-le : (n : ℕ) (f g : ℕ → ℕ) → ((i : ℕ) → i < n → f i ≤ g i) → sum_below n f ≤ sum_below n g
unfolding sum_below
sum-le zero f g le = zero-le
sum-le (suc n) f g le =
    let before = sum-le n f g (λ i h. le i (omega arith)) in
    let last = le n (omega arith) in
    omega arith

pub sum_most : (n m : ℕ) (f : ℕ → ℕ) → ((i : ℕ) → i < n → f i ≤ m) → sum_below n f ≤ n * m
unfolding sum_below
sum_most zero m f most = zero-le
sum_most (suc n) m f most =
    let rest = sum_most n m f (λ i h. most i (omega arith)) in
    let last = most n (omega arith) in
    let more = suc-mul n m in
    omega arith

pub sum_plus : (n : ℕ) (f g : ℕ → ℕ) → sum_below n (λ i. f i + g i) ≡ sum_below n f + sum_below n g
unfolding sum_below
sum_plus zero f g = refl
sum_plus (suc n) f g = let before = sum_plus n f g in omega arith

pub sum-at : (n : ℕ) (f : ℕ → ℕ) (i : ℕ) → i < n → f i ≤ sum_below n f
unfolding sum_below
sum-at zero f i h = absurd (not-suc-le-zero h)
sum-at (suc n) f i h =
    ⊎_elim (λ (e : i ≡ n). rw e (omega arith)) (λ (l : i < n). let before = sum-at n f i l in omega arith) (eq-or-lt_of_le (le_of_suc-le-suc h))

pub sum-zero : (n : ℕ) → sum_below n (λ i. 0) ≡ 0
unfolding sum_below
sum-zero zero = refl
sum-zero (suc n) = rw (sum-zero n)

pub sum_swap : (n m : ℕ) (h : ℕ → ℕ → ℕ) → sum_below n (λ i. sum_below m (h i)) ≡ sum_below m (λ j. sum_below n (λ i. h i j))
unfolding sum_below
sum_swap zero m h = sym (sum-zero m)
sum_swap (suc n) m h = rw (sum_swap n m h) (sym (sum_plus m (λ j. sum_below n (λ i. h i j)) (h n)))

-- where one term counts
sum-none : (n b : ℕ) (g : ℕ → ℕ) → n ≤ b → sum_below n (λ i. cond (eqb b i) (g i) 0) ≡ 0
unfolding sum_below
sum-none zero b g h = refl
sum-none (suc n) b g h = rw (sum-none n b g (omega arith), ne_eqb b n (λ e. lt_irrefl n (rw e at h)))

pub sum_one : (n b : ℕ) (g : ℕ → ℕ) → b < n → sum_below n (λ i. cond (eqb b i) (g i) 0) ≡ g b
unfolding sum_below
sum_one zero b g h = absurd (not-suc-le-zero h)
sum_one (suc n) b g h =
    ⊎_elim (λ (e : b ≡ n). rw (sum-none n b g (rw e (le_refl n)), eq-eqb b n e, e) (zero-add (g n)))
    (λ (l : b < n). rw (sum_one n b g l, ne_eqb b n (λ e. lt_irrefl n (rw e at l))) (add-zero (g b)))
    (eq-or-lt_of_le (le_of_suc-le-suc h))

-- functions that agree below n but at v
sum_but_one : (n v : ℕ) (x z : ℕ → ℕ) → v < n → ((p : ℕ) → p < n → (p ≡ v → ⊥) → x p ≡ z p)
    → sum_below n x + z v ≡ sum_below n z + x v
unfolding sum_below
sum_but_one zero v x z h same = absurd (not-suc-le-zero h)
sum_but_one (suc n) v x z h same =
    ⊎_elim (λ (e : v ≡ n). let before = sum_same n x z (λ p l. same p (omega arith) (omega arith)) in rw (e, before) (omega arith))
    (λ (l : v < n). let before = sum_but_one n v x z l (λ p m. same p (omega arith)) in omega (arith, before, same n (omega arith) (omega arith)))
    (eq-or-lt_of_le (le_of_suc-le-suc h))

-- f with v put in at i
unfoldable pub put : ℕ → ℕ → (ℕ → ℕ) → ℕ → ℕ
put i v f p = cond (eqb p i) v (f p)

pub put_at : (i v : ℕ) (f : ℕ → ℕ) → put i v f i ≡ v
unfolding put
put_at i v f = rw (eq-eqb i i refl)

pub put_other : (i v : ℕ) (f : ℕ → ℕ) (p : ℕ) → (p ≡ i → ⊥) → put i v f p ≡ f p
unfolding put
put_other i v f p h = rw (ne_eqb p i h)

-- functions that agree below n but at i and j, where each has the other's value
pub sum_swapped : (n i j : ℕ) (x z : ℕ → ℕ) → i < n → j < n → (i ≡ j → ⊥) → z i ≡ x j → z j ≡ x i
    → ((p : ℕ) → p < n → (p ≡ i → ⊥) → (p ≡ j → ⊥) → z p ≡ x p) → sum_below n z ≡ sum_below n x
sum_swapped n i j x z hi hj ne here there same =
    let y : ℕ → ℕ = put i (x j) x in
    let first = sum_but_one n i x y hi (λ p h away. sym (put_other i (x j) x p away)) in
    let second = sum_but_one n j z y hj (λ p h away. pick p h away (ℕ_discrete p i)) in
    let a = put_at i (x j) x in
    let b = put_other i (x j) x j (λ e. ne (sym e)) in
    omega arith
  where
    pick : (p : ℕ) → p < n → (p ≡ j → ⊥) → Dec (p ≡ i) → z p ≡ put i (x j) x p
    pick p h away (yes e) = rw (e, put_at i (x j) x) here
    pick p h away (no m) = rw (put_other i (x j) x p m) (same p h m away)

-- two terms of a sum
pub sum-two : (n i j : ℕ) (x : ℕ → ℕ) → i < n → j < n → (i ≡ j → ⊥) → x i + x j ≤ sum_below n x
sum-two n i j x hi hj ne =
    let without = sum_but_one n i x (put i 0 x) hi (λ p h away. sym (put_other i 0 x p away)) in
    let other = sum-at n (put i 0 x) j hj in
    let a = put_at i 0 x in
    let b = put_other i 0 x j (λ e. ne (sym e)) in
    omega arith

-- a number counted as often as a test holds
pub sum_times : (n : ℕ) (t : ℕ → Bool) (v : ℕ) → sum_below n (λ i. cond (t i) v 0) ≡ sum_below n (λ i. cond (t i) 1 0) * v
unfolding sum_below
sum_times zero t v = sym (zero-mul v)
sum_times (suc n) t v =
    let before = sum_below n (λ i. cond (t i) 1 0) in
    rw (sum_times n t v, add-mul before (cond (t n) 1 0) v) (ap (λ (x : ℕ). before * v + x) (go (t n)))
  where
    go : (b : Bool) → cond b v 0 ≡ cond b 1 0 * v
    go true = sym (one-mul v)
    go false = sym (zero-mul v)

-- a test that is counted at all holds somewhere
pub sum_holds : (n : ℕ) (t : ℕ → Bool) → 0 < sum_below n (λ i. cond (t i) 1 0) → (i : ℕ) × (i < n) × (t i ≡ true)
unfolding sum_below
sum_holds zero t h = absurd (not-suc-le-zero h)
sum_holds (suc n) t h = go (t n) refl h (sum_holds n t)
  where
    before : ℕ
    before = sum_below n (λ i. cond (t i) 1 0)

    go : (b : Bool) → t n ≡ b → 0 < before + cond b 1 0 → (0 < before → (i : ℕ) × (i < n) × (t i ≡ true)) → (i : ℕ) × (i < suc n) × (t i ≡ true)
    go true e h more = (n, le_refl (suc n), e)
    go false e h more = let found = more (omega arith) in let lt = found.1 in (found.0, omega arith, found.2)

-- ---- a list by its indices

pub sum_first : (n : ℕ) (f : ℕ → ℕ) → sum_below (suc n) f ≡ f 0 + sum_below n (λ i. f (suc i))
unfolding sum_below
sum_first zero f = omega arith
sum_first (suc n) f = let before = sum_first n f in omega arith

pub total_up_to : (g : ℕ → ℕ) (n : ℕ) (f : ℕ → ℕ) → total g (up_to n f) ≡ sum_below n (λ i. g (f i))
unfolding total up_to sum_below
total_up_to g zero f = refl
total_up_to g (suc n) f = rw (total_up_to g n (λ i. f (suc i))) (sym (sum_first n (λ i. g (f i))))
