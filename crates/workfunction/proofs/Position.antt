-- The distance of two positions: attained by a pairing, at most the sum of every pairing, the same for every order of
-- either, symmetric, and with the triangle rule. Assumes nothing.
use Prim.Native.Nat.{ℕ, zero, suc, ◌+◌, ◌<◌, ◌≤◌, zero-le}
use mathlib.Core.List.{List, [], ◌∷◌, map, Forall₂}
use mathlib.Core.List.Memᴰ
use mathlib.Core.List.{Memᴰ}
use mathlib.Core.List.{Permᴰ}
use mathlib.Core.Logic.{⊎_elim, ∥∥₁_elim}
use mathlib.Core.Path.{◌≡◌, refl, sym, subst, ap, ◌∙◌}
use lib.ListN.{length, get_or, set, length-set, replicate}
use native.Mathlib.Bridge.{le_prop}
use native.Mathlib.Nat.{zero-add, not-suc-le-zero, le_of_suc-le-suc, le_antisymm, le_trans, suc_inj, suc-ne-zero}
use native.Mathlib.Omega.{arith}
use Rattle.base.specs.Lists.{up_to}
use Rattle.base.specs.Metric.{Metric}
use Rattle.workfunction.specs.Lists.{permutations}
use Rattle.workfunction.specs.Position.{Position, positions, pairing, distance}
use Rattle.workfunction.proofs.Lists.{minimum_least, in_permutations, permutations_self, permutations_in}
use Rattle.workfunction.proofs.Lists.{sections_in, in_sections, up_to_in, in_up_to}
use Rattle.workfunction.proofs.Sums.{length_order, in_reordered, in_set, entry_in}

-- laws of one pairing
module _ (e : ℕ → ℕ → ℕ) where
  pub pairing-set : (A B : List ℕ) (j a : ℕ) → j < length A → length A ≡ length B
      → pairing e (set A j a) B + e (get_or A j 0) (get_or B j 0) ≡ pairing e A B + e a (get_or B j 0)
  unfolding pairing
  pairing-set [] B j a h same = absurd (not-suc-le-zero h)
  pairing-set (x ∷ A) [] j a h same = omega arith
  pairing-set (x ∷ A) (b ∷ B) zero a h same = omega arith
  pairing-set (x ∷ A) (b ∷ B) (suc j) a h same = let more = pairing-set A B j a (le_of_suc-le-suc h) (suc_inj same) in omega arith

  pub pairing_flip : (A B : List ℕ) → pairing e A B ≡ pairing (λ b a. e a b) B A
  unfolding pairing
  pairing_flip [] [] = refl
  pairing_flip [] (b ∷ B) = refl
  pairing_flip (a ∷ A) [] = refl
  pairing_flip (a ∷ A) (b ∷ B) = rw (pairing_flip A B)

  pub pairing-same : (g : ℕ → ℕ → ℕ) (A B : List ℕ) → ((a b : ℕ) → Memᴰ a A → Memᴰ b B → e a b ≡ g a b)
      → pairing e A B ≡ pairing g A B
  unfolding pairing
  pairing-same g [] B same = refl
  pairing-same g (a ∷ A) [] same = refl
  pairing-same g (a ∷ A) (b ∷ B) same =
      let rest = pairing-same g A B (λ a b m k. same a b (Memᴰ.tail m) (Memᴰ.tail k)) in
      rw (same a b (Memᴰ.head refl) (Memᴰ.head refl), rest)

  -- the triangle rule, slot by slot
  pub pairing_triangle : (d : ℕ → ℕ → ℕ) (A B C : List ℕ) → length A ≡ length B → length B ≡ length C
      → ((a b c : ℕ) → Memᴰ a A → Memᴰ b B → Memᴰ c C → e a c ≤ e a b + d b c)
      → pairing e A C ≤ pairing e A B + pairing d B C
  unfolding pairing
  pairing_triangle d [] B C p q way = zero-le
  pairing_triangle d (a ∷ A) [] C p q way = omega arith
  pairing_triangle d (a ∷ A) (b ∷ B) [] p q way = zero-le
  pairing_triangle d (a ∷ A) (b ∷ B) (c ∷ C) p q way =
      let first = way a b c (Memᴰ.head refl) (Memᴰ.head refl) (Memᴰ.head refl) in
      let rest = pairing_triangle d A B C (suc_inj p) (suc_inj q)
      (λ a b c m k l. way a b c (Memᴰ.tail m) (Memᴰ.tail k) (Memᴰ.tail l))
      in
      omega arith

-- stops beside places
pub pairing-map : (d : ℕ → ℕ → ℕ) (f : ℕ → ℕ) (T C : List ℕ) → pairing d (map f T) C ≡ pairing (λ t q. d (f t) q) T C
unfolding pairing
pairing-map d f [] C = refl
pairing-map d f (t ∷ T) [] = refl
pairing-map d f (t ∷ T) (q ∷ C) = rw (pairing-map d f T C)

-- a list beside P, taken along when P is put in another order
pub carried : {P Q : List ℕ} (T : List ℕ) → Permᴰ P Q → length T ≡ length P
    → (U : List ℕ) × Permᴰ T U × ((e : ℕ → ℕ → ℕ) → pairing e U Q ≡ pairing e T P)
unfolding pairing
carried T mathlib.Core.List.Permᴰ.nil h = (T, mathlib.Core.List.Permᴰ.refl T, λ e. refl)
carried [] (mathlib.Core.List.Permᴰ.cons g p) h = absurd (suc-ne-zero _ (sym h))
carried (t ∷ T) (mathlib.Core.List.Permᴰ.cons g p) h =
    let more = carried T p (suc_inj h) in
    (t ∷ more.0, mathlib.Core.List.Permᴰ.cons refl more.1, λ e. rw (← g, more.2 e))
carried [] (mathlib.Core.List.Permᴰ.swap g f) h = absurd (suc-ne-zero _ (sym h))
carried (t ∷ []) (mathlib.Core.List.Permᴰ.swap g f) h = absurd (suc-ne-zero _ (sym (suc_inj h)))
carried (t ∷ u ∷ T) (mathlib.Core.List.Permᴰ.swap g f) h = (u ∷ t ∷ T, mathlib.Core.List.Permᴰ.swap refl refl, λ e. rw (← g, ← f) (omega arith))
carried T (mathlib.Core.List.Permᴰ.trans p q) h =
    let one = carried T p h in
    let two = carried one.0 q (sym (length_order one.1) ∙ h ∙ length_order p) in
    (two.0, mathlib.Core.List.Permᴰ.trans one.1 two.1, λ e. two.2 e ∙ one.2 e)

module _ (d : ℕ → ℕ → ℕ) where
  -- the distance is the sum of some pairing, and at most that of every pairing
  pub distance_attained : (A B : List ℕ) → (X : List ℕ) × Permᴰ B X × (pairing d A X ≡ distance d A B)
  unfolding distance
  distance_attained A B =
      let best = (minimum_least (pairing d A) (permutations B) (permutations_self B)).attained in
      (best.0, in_permutations B best.1, best.2)

  pub distance_below : (A B : List ℕ) {X : List ℕ} → Permᴰ B X → distance d A B ≤ pairing d A X
  unfolding distance
  distance_below A B p = ∥∥₁_elim (permutations_in B ∣ p ∣₁) le_prop (λ m. (minimum_least (pairing d A) (permutations B) m).below _ m)

  -- and by an order of the first list, the second left as it is
  pub attained_left : (A B : List ℕ) → length A ≡ length B → (X : List ℕ) × Permᴰ A X × (pairing d X B ≡ distance d A B)
  attained_left A B h =
      let best = distance_attained A B in
      let more = carried A (mathlib.Core.List.Permᴰ.symm best.1) (h ∙ length_order best.1) in
      (more.0, more.1, more.2 d ∙ best.2)

  -- the same for every order of either list
  below_right : (A B X : List ℕ) → Permᴰ B X → distance d A X ≤ distance d A B
  below_right A B X p =
      let best = distance_attained A B in
      rw (← best.2) (distance_below A X (mathlib.Core.List.Permᴰ.trans (mathlib.Core.List.Permᴰ.symm p) best.1))

  pub distance_right : (A B X : List ℕ) → Permᴰ B X → distance d A B ≡ distance d A X
  distance_right A B X p = le_antisymm (below_right A X B (mathlib.Core.List.Permᴰ.symm p)) (below_right A B X p)

  below_left : (A X B : List ℕ) → length A ≡ length B → Permᴰ A X → distance d X B ≤ distance d A B
  below_left A X B h p =
      let best = distance_attained A B in
      let more = carried best.0 p (sym (h ∙ length_order best.1)) in
      rw (← best.2, pairing_flip d A best.0, ← more.2 (λ b a. d a b), ← pairing_flip d X more.0)
      (distance_below X B (mathlib.Core.List.Permᴰ.trans best.1 more.1))

  pub distance_left : (A X B : List ℕ) → length A ≡ length B → Permᴰ A X → distance d A B ≡ distance d X B
  distance_left A X B h p = le_antisymm (below_left X A B (sym (length_order p) ∙ h) (mathlib.Core.List.Permᴰ.symm p)) (below_left A X B h p)

  -- a list beside P, taken along to the next position: the sum grows by the distance at most
  pub stepped : (e : ℕ → ℕ → ℕ) (T P Q : List ℕ) → length T ≡ length P → length P ≡ length Q
      → ((t p q : ℕ) → Memᴰ t T → Memᴰ p P → Memᴰ q Q → e t q ≤ e t p + d p q)
      → (U : List ℕ) × Permᴰ T U × (pairing e U Q ≤ pairing e T P + distance d P Q)
  stepped e T P Q h g way =
      let best = distance_attained P Q in
      let same : length P ≡ length best.0 = g ∙ length_order best.1 in
      let more = carried T (mathlib.Core.List.Permᴰ.symm best.1) (h ∙ same) in
      let over = pairing_triangle e d T P best.0 h same (λ t p q m k l. way t p q m k (in_reordered (mathlib.Core.List.Permᴰ.symm best.1) l)) in
      (more.0, more.1, rw (more.2 e, ← best.2) over)

-- positions keep being positions
pub position_order : {n k : ℕ} {C X : List ℕ} → Permᴰ C X → Position n k C → Position n k X
position_order p h = record { cranes = sym (length_order p) ∙ h.cranes; placed = λ m. h.placed (in_reordered (mathlib.Core.List.Permᴰ.symm p) m) }

pub position_set : {n k : ℕ} (C : List ℕ) (s r : ℕ) → r < n → Position n k C → Position n k (set C s r)
position_set {n} C s r lt h =
    record { cranes = length-set C s r ∙ h.cranes; placed = λ m. ⊎_elim (λ e. rw e lt) (λ k. h.placed k) (in_set C s r m) }

pub together : {n m k : ℕ} {A B : List ℕ} → Position n k A → Position m k B → length A ≡ length B
together a b = a.cranes ∙ sym b.cranes

module _ {n : ℕ} {d : ℕ → ℕ → ℕ} (laws : Metric n d) where
  -- cranes that stay where they are
  pub unmoved : (A : List ℕ) → ((p : ℕ) → Memᴰ p A → p < n) → pairing d A A ≤ 0
  unfolding pairing
  unmoved [] on = zero-le
  unmoved (p ∷ A) on = rw (laws.self p (on p (Memᴰ.head refl))) (rw zero-add (unmoved A (λ q m. on q (Memᴰ.tail m))))

  pub distance_self : {k : ℕ} {A : List ℕ} → Position n k A → distance d A A ≡ 0
  distance_self {A = A} a = le_antisymm (le_trans (distance_below d A A (mathlib.Core.List.Permᴰ.refl A)) (unmoved A (λ p m. a.placed m))) zero-le

  below_flip : {k : ℕ} (A B : List ℕ) → Position n k A → Position n k B → distance d B A ≤ distance d A B
  below_flip A B a b =
      let best = attained_left d A B (together a b) in
      let x : Position n _ best.0 = position_order best.1 a in
      let back = pairing-same (λ q p. d p q) d B best.0 (λ q p m l. laws.both_ways p q (x.placed l) (b.placed m)) in
      rw (← best.2, pairing_flip d best.0 B, back) (distance_below d B A best.1)

  pub distance_flip : {k : ℕ} {A B : List ℕ} → Position n k A → Position n k B → distance d A B ≡ distance d B A
  distance_flip {A = A} {B} a b = le_antisymm (below_flip B A b a) (below_flip A B a b)

  pub distance_triangle : {k : ℕ} {A B C : List ℕ} → Position n k A → Position n k B → Position n k C
      → distance d A C ≤ distance d A B + distance d B C
  distance_triangle {A = A} {B} {C} a b c =
      let near = attained_left d A B (together a b) in
      let u : Position n _ near.0 = position_order near.1 a in
      let far = stepped d d near.0 B C (together u b) (together b c)
      (λ p q r m k l. laws.triangle p q r (u.placed m) (b.placed k) (c.placed l))
      in
      let over : Permᴰ A far.0 = mathlib.Core.List.Permᴰ.trans near.1 far.1 in
      rw (← near.2, distance_left d A far.0 C (together a c) over)
      (le_trans (distance_below d far.0 C (mathlib.Core.List.Permᴰ.refl C)) far.2)

  -- one crane moved, the others left where they are
  pub distance-moved : {k : ℕ} (C : List ℕ) (s r : ℕ) → Position n k C → s < length C → r < n
      → distance d C (set C s r) ≤ d (get_or C s 0) r
  distance-moved C s r c lt place =
      let stand : get_or C s 0 < n = c.placed (entry_in C s lt) in
      let sum = pairing-set d C C s r lt refl in
      let none = unmoved C (λ p m. c.placed m) in
      let self = laws.self (get_or C s 0) stand in
      let back = laws.both_ways (get_or C s 0) r stand place in
      let flip = distance_flip c (position_set C s r place c) in
      let near = distance_below d (set C s r) C (mathlib.Core.List.Permᴰ.refl C) in
      omega arith

-- positions has just the positions
pub positions_in : (n : ℕ) {k : ℕ} {C : List ℕ} → Position n k C → Memᴰ C (positions n k)
unfolding positions
positions_in n {k} {C} c = sections_in (rows k C c.cranes (λ p m. c.placed m))
  where
    rows : (k : ℕ) (C : List ℕ) → length C ≡ k → ((p : ℕ) → Memᴰ p C → p < n)
        → Forall₂ (λ p (l : List ℕ). Memᴰ p l) C (replicate k (up_to n (λ p. p)))
    rows zero [] h on = Forall₂.nil
    rows (suc k) [] h on = absurd (suc-ne-zero k (sym h))
    rows zero (p ∷ C) h on = absurd (suc-ne-zero (length C) h)
    rows (suc k) (p ∷ C) h on =
        Forall₂.cons (up_to_in n (λ p. p) p (on p (Memᴰ.head refl))) (rows k C (suc_inj h) (λ q m. on q (Memᴰ.tail m)))

pub in_positions : (n k : ℕ) {C : List ℕ} → Memᴰ C (positions n k) → Position n k C
unfolding positions
in_positions n k m = rows k (in_sections (replicate k (up_to n (λ p. p))) m)
  where
    rows : (k : ℕ) {C : List ℕ} → Forall₂ (λ p (l : List ℕ). Memᴰ p l) C (replicate k (up_to n (λ p. p))) → Position n k C
    rows zero Forall₂.nil = record { cranes = refl; placed = λ m. absurd (Memᴰ.not-nil m) }
    rows (suc k) (Forall₂.cons h more) =
        let rest = rows k more in
        let at = in_up_to n (λ p. p) h in
        record {
          cranes = ap suc rest.cranes;
          placed = λ m. ⊎_elim (λ e. subst (λ (q : ℕ). q < n) (sym (e ∙ at.2)) at.1) (λ k. rest.placed k) (Memᴰ.cases_cons m);
        }
