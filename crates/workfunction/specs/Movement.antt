-- Movements of a book, what they cost, and the least of them: first what a least of all movements is, then the same as numbers that
-- compute.
use Rattle.std.specs.Prelude.{ℕ, ◌+◌, ◌<◌, Bool, false, ◌||◌, eqb, length}
use mathlib.Core.List.{List, [], ◌∷◌, map, Memᴰ, Forall₂}
use Rattle.workfunction.specs.Least.{IsLeast}
use Rattle.workfunction.specs.Lists.{minimum, filter, sections}
use Rattle.workfunction.specs.Position.{Position, positions, distance}

-- What a book starts from and has been asked: at least one crane, each start and each call a place of a table of n.
pub record Instance (n : ℕ) (starts calls : List ℕ) : Type 0 where
  pub crane : 0 < length starts
  pub started : Position n (length starts) starts
  pub called : {r : ℕ} → Memᴰ r calls → r < n

-- a position "containing that call's place"
abbrev pub Serves : ℕ → ℕ → ℕ → List ℕ → Type 0
Serves n k r C = Position n k C × Memᴰ r C

-- "A movement of a book is a list of positions: first the starts, then one for each call in order, containing that call's
-- place, and last its end": here those between the starts and the end. Each is any position, so several cranes may move at a time.
abbrev pub Movement : ℕ → ℕ → List ℕ → List (List ℕ) → Type 0
Movement n k = Forall₂ (Serves n k)

module _ (d : ℕ → ℕ → ℕ) where
  -- "A movement costs the sum of the distances from each position to the next": from A through M to C.
  unfoldable pub cost : List ℕ → List (List ℕ) → List ℕ → ℕ
  cost A [] C = distance d A C
  cost A (P ∷ M) C = distance d A P + cost P M C

  module _ (n : ℕ) (starts calls : List ℕ) where
    -- a number is the least cost of all movements from the starts, with a crane at each call in turn, to the end C
    abbrev pub LeastTo : List ℕ → ℕ → Type 0
    LeastTo C = IsLeast (Movement n (length starts) calls) (λ M. cost starts M C)

-- ---- as numbers that compute

-- r is an entry of C
unfoldable pub contains : ℕ → List ℕ → Bool
contains r [] = false
contains r (p ∷ C) = eqb r p || contains r C

-- every movement
unfoldable pub movements : ℕ → ℕ → List ℕ → List (List (List ℕ))
movements n k calls = sections (map (λ r. filter (contains r) (positions n k)) calls)

module _ (d : ℕ → ℕ → ℕ) (n : ℕ) (starts calls : List ℕ) where
  -- "The work function w(C) of a book is the least cost of all its movements that end at C."
  unfoldable pub work : List ℕ → ℕ
  work C = minimum (map (λ M. cost d starts M C) (movements n (length starts) calls))

  -- paper 8: "The floor becomes w(starts)": the least cost of all movements that bring the cranes back to the starts, any crane to any.
  unfoldable pub floor : ℕ
  floor = work starts
