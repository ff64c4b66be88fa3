-- Finite choices that compute: the least of a list, what passes a test or is least, every order, every way to choose.
use Rattle.std.specs.Prelude.{ℕ, zero, suc, ◌+◌, min, Bool, cond, eqb}
use mathlib.Core.List.{List, [], ◌∷◌, map, flat_map}

-- the least number of a list; 0 where there is none
unfoldable pub minimum : List ℕ → ℕ
minimum [] = 0
minimum (a ∷ []) = a
minimum (a ∷ b ∷ l) = min a (minimum (b ∷ l))

-- every list with a put into l somewhere
unfoldable pub insertions : ℕ → List ℕ → List (List ℕ)
insertions a [] = (a ∷ []) ∷ []
insertions a (b ∷ l) = (a ∷ b ∷ l) ∷ map (λ t. b ∷ t) (insertions a l)

-- every order of a list
unfoldable pub permutations : List ℕ → List (List ℕ)
permutations [] = [] ∷ []
permutations (a ∷ l) = flat_map (insertions a) (permutations l)

-- f 0 + f 1 + .. + f (n - 1)
unfoldable pub sum_below : ℕ → (ℕ → ℕ) → ℕ
sum_below zero f = 0
sum_below (suc n) f = sum_below n f + f n

module _ {A : Type 0} where
  -- the elements that pass a test
  unfoldable pub filter : (A → Bool) → List A → List A
  filter P [] = []
  filter P (a ∷ l) = cond (P a) (a ∷ filter P l) (filter P l)

  -- the elements at which f is least
  unfoldable pub least_by : (A → ℕ) → List A → List A
  least_by f l = filter (λ a. eqb (f a) (minimum (map f l))) l

  -- every list that takes one element from each list in turn
  unfoldable pub sections : List (List A) → List (List A)
  sections [] = [] ∷ []
  sections (l ∷ ls) = flat_map (λ a. map (λ t. a ∷ t) (sections ls)) l
