-- What is told of the places that hold a crane: a refusal with zeros, or the answers of the mask of the stands.
-- Assumes nothing.
use Prim.Native.Nat.{ℕ, ◌+◌, ◌-◌, ◌^◌, ◌<◌, ◌≤◌, zero-le}
use mathlib.Core.Bool.{Bool, true, false, cond, ◌||◌, not}
use mathlib.Core.List.{List, [], ◌∷◌}
use mathlib.Core.Path.{◌≡◌, refl, sym, ap, ◌∙◌}
use borrow.Author.Tests.{eq-eqb, ne_eqb}
use lib.Count.{ones, count_trailing_zeros}
use lib.Dec.{eqb}
use lib.ListN.{length}
use native.Mathlib.Decide.{dec_lt, ℕ_discrete}
use native.Mathlib.Nat.{zero-add, le_of_eq}
use native.Mathlib.Omega.{arith}
use Rattle.base.proofs.Numbers.{zeros_told}
use Rattle.road.specs.Table.{Table, most_places}
use Rattle.workfunction.specs.Lists.{sum_below}
use Rattle.workfunction.specs.Movement.{contains}
use Rattle.workfunction.proofs.Sums.{sum_same, sum-le, sum_plus, sum_one, sum-zero}
use Rattle.book.specs.declared.Book.{Book}
use Rattle.book.specs.Book.{BookArrays, book_refusal}
use Rattle.book.proofs.Sound.{Sound, book_sound}
use Rattle.near.specs.Count.{count, first}
use Rattle.near.specs.Mask.{mask_of}
use Rattle.near.specs.Occupancy.{holds_crane, HeldPlaces, occupancy_of}
use Rattle.near.proofs.Count.{count_none, count_wider, first_wider}
use Rattle.near.proofs.Standing.{few_places, none_past}
use Rattle.near.proofs.mask.Laws.{mask_ones, mask_free}

eqb_sym : (p a : ℕ) → eqb p a ≡ eqb a p
eqb_sym p a = go (ℕ_discrete p a)
  where
    go : Dec (p ≡ a) → eqb p a ≡ eqb a p
    go (yes e) = eq-eqb p a e ∙ sym (eq-eqb a p (sym e))
    go (no n) = ne_eqb p a n ∙ sym (ne_eqb a p (λ e. n (sym e)))

-- a number is one at most
one_most : (n a : ℕ) → sum_below n (λ p. cond (eqb p a) 1 0) ≤ 1
one_most n a = go (dec_lt a n)
  where
    go : Dec (a < n) → sum_below n (λ p. cond (eqb p a) 1 0) ≤ 1
    go (yes lt) = le_of_eq (sum_same n _ (λ p. cond (eqb a p) 1 0) (λ p h. rw (eqb_sym p a)) ∙ sum_one n a (λ p. 1) lt)
    go (no past) = rw (sum_same n (λ p. cond (eqb p a) 1 0) (λ p. 0) (λ p h. rw (ne_eqb p a (λ e. past (omega arith)))), sum-zero n) zero-le

-- a list has no more places than entries
pub places_most : (n : ℕ) (l : List ℕ) → count n (λ p. contains p l) ≤ length l
unfolding contains count
places_most n [] = le_of_eq (count_none (λ p. false) n (λ p lt. refl))
places_most n (a ∷ l) =
    let rest = places_most n l in
    let both = sum_plus n (λ p. cond (eqb p a) 1 0) (λ p. cond (contains p l) 1 0) in
    let all = sum-le n (λ p. cond (eqb p a || contains p l) 1 0) (λ p. cond (eqb p a) 1 0 + cond (contains p l) 1 0) (λ p lt. either (eqb p a) (contains p l)) in
    omega (arith, one_most n a)
  where
    either : (x y : Bool) → cond (x || y) 1 0 ≤ cond x 1 0 + cond y 1 0
    either true y = omega arith
    either false y = le_of_eq (sym (zero-add (cond y 1 0)))

module _ (book : Book) (n : ℕ) (t : Table) where
  pub occupancy_refused : (m : ℕ) → m ≡ book_refusal book n t → (m ≡ 0 → ⊥)
      → ◌≡◌ {A = HeldPlaces} (record { number = m; held = 0; free = 0 }) (occupancy_of book n t)
  unfolding occupancy_of
  occupancy_refused m e h = rw (← e) (zeros_told m _ (λ k. record { number = k; held = 0; free = 0 }) h)

  module _ (arrays : BookArrays book) (accepted : book_refusal book n t ≡ 0) (mask : ℕ) (same : mask ≡ mask_of most_places (holds_crane book)) where
    sound : Sound book n t
    sound = book_sound accepted

    pub ones_held : ones mask ≡ count n (holds_crane book)
    ones_held =
        ap ones same ∙ mask_ones most_places (holds_crane book)
        ∙ count_wider (holds_crane book) n most_places (few_places arrays sound) (λ p past lt. none_past arrays sound p past)

    pub zeros_free : count_trailing_zeros most_places ((2 ^ most_places - 1) - mask) ≡ first n (λ p. not (holds_crane book p))
    zeros_free =
        rw same (mask_free most_places (holds_crane book)
        ∙ first_wider n most_places (λ p. not (holds_crane book p)) (few_places arrays sound) (λ p past lt. rw (none_past arrays sound p past)))

    pub occupancy_told : ◌≡◌ {A = HeldPlaces}
        (record { number = 0; held = ones mask; free = count_trailing_zeros most_places ((2 ^ most_places - 1) - mask) }) (occupancy_of book n t)
    unfolding occupancy_of
    occupancy_told = rw (accepted, ones_held, zeros_free)
