-- Positions of the cranes, and the distance of two.
use Rattle.std.specs.Prelude.{ℕ, ◌+◌, ◌<◌, ◌≡◌, length, replicate}
use mathlib.Core.List.{List, [], ◌∷◌, map, Memᴰ}
use Rattle.base.specs.Lists.{up_to}
use Rattle.workfunction.specs.Lists.{minimum, permutations, sections}

-- "A position is a list of k places, k being the number of cranes": places of a table of n. In the literature on k servers, a
-- configuration.
pub record Position (n k : ℕ) (C : List ℕ) : Type 0 where
  pub cranes : length C ≡ k
  pub placed : {p : ℕ} → Memᴰ p C → p < n

module _ (d : ℕ → ℕ → ℕ) where
  -- the sum of one pairing of two lists of one length: each entry of A with the entry of B in its slot
  unfoldable pub pairing : List ℕ → List ℕ → ℕ
  pairing [] B = 0
  pairing (a ∷ A) [] = 0
  pairing (a ∷ A) (b ∷ B) = d a b + pairing A B

  -- "The distance of two positions is the least sum over all pairings": A beside B in every order.
  unfoldable pub distance : List ℕ → List ℕ → ℕ
  distance A B = minimum (map (pairing A) (permutations B))

-- every position
unfoldable pub positions : ℕ → ℕ → List (List ℕ)
positions n k = sections (replicate k (up_to n (λ p. p)))
