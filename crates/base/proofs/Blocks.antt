-- Items of one width, one behind another: how long they are together, and that what is written is read back.
-- Assumes nothing.
use Prim.Native.Nat.{ℕ, zero, suc, ◌+◌, ◌*◌, ◌/◌, ◌<◌, ◌≤◌, zero-le, suc-le-suc}
use mathlib.Core.List.{List, [], ◌∷◌, ◌++◌, flat_map, append_assoc, append-nil}
use mathlib.Core.Path.{◌≡◌, refl, sym, ap, ap₂, ◌∙◌}
use lib.ListN.{length, drop, length-append, length-drop}
use lib.Seq.{drop_at, drop-drop}
use native.Mathlib.Nat.{add_comm, mul-suc, mul-zero, add-div_left, zero-div}
use native.Mathlib.Numerals.{add-one}
use native.Mathlib.Omega.{arith}
use Rattle.base.specs.Lists.{up_to, blocks}
use Rattle.base.proofs.Lists.{up_to-same}

-- P holds of each item
abbrev pub Each : {A : Type 0} → (A → Type 0) → List A → Type 0
Each P [] = Unit {0}
Each P (a ∷ l) = P a × Each P l

pub each_all : {A : Type 0} {P : A → Type 0} → ((a : A) → P a) → (l : List A) → Each P l
each_all h [] = tt
each_all h (a ∷ l) = (h a, each_all h l)

pub each_same : {A : Type 0} {P Q : A → Type 0} → ((a : A) → P a → Q a) → (l : List A) → Each P l → Each Q l
each_same h [] p = tt
each_same h (a ∷ l) p = (h a p.0, each_same h l p.1)

pub each_up_to : {A : Type 0} (P : A → Type 0) (n : ℕ) (f : ℕ → A) → ((i : ℕ) → i < n → P (f i)) → Each P (up_to n f)
unfolding up_to
each_up_to P zero f h = tt
each_up_to P (suc n) f h = (h 0 (suc-le-suc zero-le), each_up_to P n (λ i. f (suc i)) (λ i lt. h (suc i) (suc-le-suc lt)))

module _ {A : Type 0} (e : A → List ℕ) where
  pub flat_map-append : (l m : List A) → flat_map e (l ++ m) ≡ flat_map e l ++ flat_map e m
  unfolding flat_map
  flat_map-append [] m = refl
  flat_map-append (a ∷ l) m = rw (flat_map-append l m) (sym (append_assoc (e a) (flat_map e l) (flat_map e m)))

  pub flat_map-one : (a : A) → flat_map e (a ∷ []) ≡ e a
  unfolding flat_map
  flat_map-one a = append-nil (e a)

  pub length-flat_map : (w : ℕ) (l : List A) → Each (λ a. length (e a) ≡ w) l → length (flat_map e l) ≡ w * length l
  unfolding flat_map
  length-flat_map w [] wide = sym (mul-zero w)
  length-flat_map w (a ∷ l) wide = rw (length-append, wide.0, length-flat_map w l wide.1, mul-suc w (length l)) (add_comm w (w * length l))

-- the first item of some bytes, and the rest
pub blocks_more : {A : Type 0} (w : ℕ) (f : List ℕ → A) (bs : List ℕ) → 0 < w → w ≤ length bs → blocks w f bs ≡ f bs ∷ blocks w f (drop w bs)
unfolding up_to
blocks_more {A} w f bs some h =
    let n : ℕ = length (drop w bs) / w in
    let whole : length bs ≡ w + length (drop w bs) = rw length-drop (omega arith) in
    let e : length bs / w ≡ suc n = ap (λ (k : ℕ). k / w) whole ∙ add-div_left (length (drop w bs)) some ∙ add-one n in
    rw (e, mul-zero w) (ap (λ (l : List A). f bs ∷ l) (up_to-same n _ _ (λ i lt. ap f (next i))))
  where
    next : (i : ℕ) → drop (w * suc i) bs ≡ drop (w * i) (drop w bs)
    next i = rw (mul-suc w i, add_comm (w * i) w) (sym (drop-drop (w * i) w bs))

-- items that are w bytes wide and are read back each, whatever stands behind it, are read back together
pub blocks_back : {A : Type 0} (w : ℕ) (f : List ℕ → A) (e : A → List ℕ) → 0 < w → (l : List A) → Each (λ a. length (e a) ≡ w) l
    → Each (λ a. (rest : List ℕ) → f (e a ++ rest) ≡ a) l → blocks w f (flat_map e l) ≡ l
unfolding flat_map up_to
blocks_back w f e some [] wide back = rw (zero-div w)
blocks_back {A} w f e some (a ∷ l) wide back =
    let rest : List ℕ = flat_map e l in
    let long : w ≤ length (e a ++ rest) = rw (length-append (e a) rest, wide.0) (omega arith) in
    blocks_more w f (e a ++ rest) some long
    ∙ ap₂ (λ (b : A) (m : List ℕ). b ∷ blocks w f m) (back.0 rest) (drop_at (e a) rest w wide.0)
    ∙ ap (λ (m : List A). a ∷ m) (blocks_back w f e some l wide.1 back.1)
