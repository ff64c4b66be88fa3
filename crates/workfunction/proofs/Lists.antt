-- The laws of the finite choices: the minimum of a list is its least, and which lists the enumerations have. An order of a
-- list is its permutation, List.Permᴰ. Assumes nothing.
use Prim.Native.Nat.{ℕ, zero, suc, ◌<◌, ◌≤◌, min, zero-le, suc-le-suc}
use mathlib.Core.Bool.{Bool, true, false, cond}
use mathlib.Core.List.{List, [], ◌∷◌, ◌++◌, map, flat_map, Forall₂}
use mathlib.Core.List.Memᴰ
use mathlib.Core.List.{Memᴰ}
use mathlib.Core.List.{Mem, mem-cast, mem-cons_self, append_of_mem}
use mathlib.Core.List.{Permᴰ}
use mathlib.Core.List.{Perm, perm_middle}
use mathlib.Core.Logic.{⊎_elim, ∥∥₁_elim, ∥∥₁_prop, ∥∥₁_map}
use mathlib.Core.Path.{◌≡◌, refl, sym, subst}
use borrow.Author.Tests.{eqb-true, eq-eqb}
use lib.Dec.{eqb}
use native.Mathlib.Decide.{dec_le}
use native.Mathlib.Nat.{le_antisymm, le_refl, le_trans, min-le_left, min-le_right, min-eq_left, min-eq_right, not-suc-le-zero, le_of_suc-le-suc}
use native.Mathlib.Omega.{arith}
use Rattle.base.specs.Lists.{up_to}
use Rattle.workfunction.specs.Least.{IsLeast}
use Rattle.workfunction.specs.Lists.{minimum, insertions, permutations, filter, least_by, sections}

-- the minimum of a list is in it, and none of its numbers is lower
minimum_in : (a : ℕ) (l : List ℕ) → Memᴰ (minimum (a ∷ l)) (a ∷ l)
unfolding minimum
minimum_in a [] = Memᴰ.head refl
minimum_in a (b ∷ l) = pick (minimum_in b l) (dec_le a (minimum (b ∷ l)))
  where
    pick : {m : ℕ} → Memᴰ m (b ∷ l) → Dec (a ≤ m) → Memᴰ (min a m) (a ∷ b ∷ l)
    pick h (yes p) = Memᴰ.head (min-eq_left p)
    pick {m} h (no p) = Memᴰ.tail (Memᴰ.cast (min-eq_right (omega arith)) h)

minimum-le : {a : ℕ} (l : List ℕ) → Memᴰ a l → minimum l ≤ a
unfolding minimum
minimum-le [] h = absurd (Memᴰ.not-nil h)
minimum-le (b ∷ []) h = ⊎_elim (λ e. rw e (le_refl b)) (λ m. absurd (Memᴰ.not-nil m)) (Memᴰ.cases_cons h)
minimum-le (b ∷ c ∷ l) h =
    ⊎_elim (λ e. rw e (min-le_left b (minimum (c ∷ l)))) (λ m. le_trans (min-le_right b (minimum (c ∷ l))) (minimum-le (c ∷ l) m))
    (Memᴰ.cases_cons h)

module _ {A : Type 0} where
  minimum_attained : (f : A → ℕ) {a : A} (l : List A) → Memᴰ a l → (b : A) × Memᴰ b l × (f b ≡ minimum (map f l))
  minimum_attained f [] h = absurd (Memᴰ.not-nil h)
  minimum_attained f (b ∷ l) h = Memᴰ.of_map f (b ∷ l) (minimum_in (f b) (map f l))

  -- the minimum of f over a list that is not empty is its least there
  pub minimum_least : (f : A → ℕ) {a : A} (l : List A) → Memᴰ a l → IsLeast (λ b. Memᴰ b l) f (minimum (map f l))
  minimum_least f l h = record { attained = minimum_attained f l h; below = λ b m. minimum-le (map f l) (Memᴰ.map f m) }

  -- filter has just the elements that pass
  pub filter_in : (P : A → Bool) {a : A} {l : List A} → P a ≡ true → Memᴰ a l → Memᴰ a (filter P l)
  unfolding filter
  filter_in P {a} t (Memᴰ.head {x} e) = rw (subst (λ (b : A). P b ≡ true) e t) (Memᴰ.head e)
  filter_in P t (Memᴰ.tail {x} m) = go (P x) (filter_in P t m)
    where
      go : {a : A} {l : List A} (b : Bool) → Memᴰ a l → Memᴰ a (cond b (x ∷ l) l)
      go true h = Memᴰ.tail h
      go false h = h

  pub in_filter : (P : A → Bool) {a : A} (l : List A) → Memᴰ a (filter P l) → Memᴰ a l × (P a ≡ true)
  unfolding filter
  in_filter P [] h = absurd (Memᴰ.not-nil h)
  in_filter P {a} (x ∷ l) h = go (P x) refl h (in_filter P l)
    where
      go : (b : Bool) → P x ≡ b → Memᴰ a (cond b (x ∷ filter P l) (filter P l))
          → (Memᴰ a (filter P l) → Memᴰ a l × (P a ≡ true)) → Memᴰ a (x ∷ l) × (P a ≡ true)
      go true e h more =
          ⊎_elim (λ (q : a ≡ x). (Memᴰ.head q, subst (λ (b : A). P b ≡ true) (sym q) e))
          (λ m. (Memᴰ.tail (more m).0, (more m).1)) (Memᴰ.cases_cons h)
      go false e h more = (Memᴰ.tail (more h).0, (more h).1)

  -- least_by has just the elements at which f is least
  pub least_by_in : (f : A → ℕ) {a : A} {l : List A} → Memᴰ a l → ((b : A) → Memᴰ b l → f a ≤ f b)
      → Memᴰ a (least_by f l)
  unfolding least_by
  least_by_in f {a} {l} m low =
      let least = minimum_least f l m in
      let best = least.attained in
      let le = low best.0 best.1 in
      filter_in _ (eq-eqb (f a) (minimum (map f l)) (le_antisymm (rw best.2 at le) (least.below a m))) m

  pub in_least_by : (f : A → ℕ) {a : A} (l : List A) → Memᴰ a (least_by f l)
      → Memᴰ a l × ((b : A) → Memᴰ b l → f a ≤ f b)
  unfolding least_by
  in_least_by f {a} l m =
      let out = in_filter (λ a. eqb (f a) (minimum (map f l))) l m in
      (out.0, λ b h. rw (eqb-true (f a) (minimum (map f l)) out.1) ((minimum_least f l h).below b h))

  pub least_by_some : (f : A → ℕ) {a : A} {l : List A} → Memᴰ a l → (b : A) × Memᴰ b (least_by f l)
  least_by_some f {a} {l} m =
      let least = minimum_least f l m in
      let best = least.attained in
      (best.0, least_by_in f best.1 (λ b h. rw best.2 (least.below b h)))

  -- a list by its indices has just the values of its rule
  pub up_to_in : (n : ℕ) (f : ℕ → A) (i : ℕ) → i < n → Memᴰ (f i) (up_to n f)
  unfolding up_to
  up_to_in zero f i h = absurd (not-suc-le-zero h)
  up_to_in (suc n) f zero h = Memᴰ.head refl
  up_to_in (suc n) f (suc i) h = Memᴰ.tail (up_to_in n (λ i. f (suc i)) i (le_of_suc-le-suc h))

  pub in_up_to : (n : ℕ) (f : ℕ → A) {a : A} → Memᴰ a (up_to n f) → (i : ℕ) × (i < n) × (a ≡ f i)
  unfolding up_to
  in_up_to zero f m = absurd (Memᴰ.not-nil m)
  in_up_to (suc n) f m =
      ⊎_elim (λ e. (0, suc-le-suc zero-le, e))
      (λ h. let r = in_up_to n (λ i. f (suc i)) h in (suc r.0, suc-le-suc r.1, r.2)) (Memᴰ.cases_cons m)

module _ {A B : Type 0} (g : A → List B) where
  flat_map_in : {a : A} {b : B} {l : List A} → Memᴰ a l → Memᴰ b (g a) → Memᴰ b (flat_map g l)
  unfolding flat_map
  flat_map_in {b = b} (Memᴰ.head {x} {xs} e) h = Memᴰ.append_left (flat_map g xs) (subst (λ c. Memᴰ b (g c)) e h)
  flat_map_in (Memᴰ.tail {x} m) h = Memᴰ.append_right (g x) (flat_map_in m h)

  in_flat_map : {b : B} (l : List A) → Memᴰ b (flat_map g l) → (a : A) × Memᴰ a l × Memᴰ b (g a)
  unfolding flat_map
  in_flat_map [] h = absurd (Memᴰ.not-nil h)
  in_flat_map {b} (a ∷ l) h =
      ⊎_elim (λ m. (a, Memᴰ.head refl, m)) (λ m. let r = in_flat_map l m in (r.0, Memᴰ.tail r.1, r.2))
      (Memᴰ.append_cases (g a) h)

module _ {A : Type 0} where
  -- sections has just the lists that take one element from each list in turn
  pub sections_in : {t : List A} {ls : List (List A)} → Forall₂ (λ a l. Memᴰ a l) t ls → Memᴰ t (sections ls)
  unfolding sections
  sections_in Forall₂.nil = Memᴰ.head refl
  sections_in (Forall₂.cons {a = a} m h) = flat_map_in _ m (Memᴰ.map (λ t. a ∷ t) (sections_in h))

  pub in_sections : {t : List A} (ls : List (List A)) → Memᴰ t (sections ls) → Forall₂ (λ a l. Memᴰ a l) t ls
  unfolding sections
  in_sections [] h = ⊎_elim (λ e. rw e Forall₂.nil) (λ m. absurd (Memᴰ.not-nil m)) (Memᴰ.cases_cons h)
  in_sections {t = t} (l ∷ ls) h =
      let out = in_flat_map (λ a. map (λ t. a ∷ t) (sections ls)) l h in
      let rest = Memᴰ.of_map (λ t. out.0 ∷ t) (sections ls) out.2 in
      subst (λ u. Forall₂ (λ a (l : List A). Memᴰ a l) u (l ∷ ls)) rest.2 (Forall₂.cons out.1 (in_sections {t = rest.0} ls rest.1))

-- permutations has just the orders of a list
in_insertions : (a : ℕ) (l : List ℕ) {t : List ℕ} → Memᴰ t (insertions a l) → Permᴰ (a ∷ l) t
unfolding insertions
in_insertions a [] h = ⊎_elim (λ e. rw e (mathlib.Core.List.Permᴰ.refl (a ∷ []))) (λ m. absurd (Memᴰ.not-nil m)) (Memᴰ.cases_cons h)
in_insertions a (b ∷ l) h =
    ⊎_elim (λ e. rw e (mathlib.Core.List.Permᴰ.refl (a ∷ b ∷ l)))
    (λ m.
    let rest = Memᴰ.of_map (λ t. b ∷ t) (insertions a l) m in
    let behind : Permᴰ (a ∷ l) rest.0 = in_insertions a l {t = rest.0} rest.1 in
    subst (Permᴰ (a ∷ b ∷ l)) rest.2 (mathlib.Core.List.Permᴰ.trans (mathlib.Core.List.Permᴰ.swap refl refl) (mathlib.Core.List.Permᴰ.cons refl behind)))
    (Memᴰ.cases_cons h)

pub in_permutations : (l : List ℕ) {t : List ℕ} → Memᴰ t (permutations l) → Permᴰ l t
unfolding permutations
in_permutations [] h = ⊎_elim (λ e. rw e mathlib.Core.List.Permᴰ.nil) (λ m. absurd (Memᴰ.not-nil m)) (Memᴰ.cases_cons h)
in_permutations (a ∷ l) h =
    let out = in_flat_map (insertions a) (permutations l) h in
    mathlib.Core.List.Permᴰ.trans (mathlib.Core.List.Permᴰ.cons refl (in_permutations l out.1)) (in_insertions a out.0 out.2)

insertions_in : (a : ℕ) (s t : List ℕ) → Memᴰ (s ++ (a ∷ t)) (insertions a (s ++ t))
unfolding insertions
insertions_in a [] [] = Memᴰ.head refl
insertions_in a [] (b ∷ t) = Memᴰ.head refl
insertions_in a (b ∷ s) t = Memᴰ.tail (Memᴰ.map (λ t. b ∷ t) (insertions_in a s t))

pub permutations_self : (l : List ℕ) → Memᴰ l (permutations l)
unfolding permutations
permutations_self [] = Memᴰ.head refl
permutations_self (a ∷ l) = flat_map_in (insertions a) (permutations_self l) (insertions_in a [] l)

-- by the library's permutations, which are truncated
pub permutations_in : (l : List ℕ) {t : List ℕ} → Perm l t → Mem t (permutations l)
unfolding permutations
permutations_in [] p = mem-cast (sym (mathlib.Core.List.Perm.nil-eq p)) mem-cons_self
permutations_in (a ∷ l) p =
    ∥∥₁_elim (append_of_mem (mathlib.Core.List.Perm.subset p a mem-cons_self)) ∥∥₁_prop
    (λ cut.
    let split : Perm (a ∷ l) (cut.0 ++ (a ∷ cut.1)) = subst (Perm (a ∷ l)) cut.2 p in
    let rest = permutations_in l (mathlib.Core.List.Perm.cons_inv (mathlib.Core.List.Perm.trans split (perm_middle cut.0 cut.1))) in
    mem-cast cut.2 (∥∥₁_map rest (λ m. flat_map_in (insertions a) m (insertions_in a cut.0 cut.1))))
