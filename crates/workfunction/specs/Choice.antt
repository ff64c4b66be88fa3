-- The choice of the crane that serves a call.
use Rattle.std.specs.Prelude.{ℕ, ◌+◌, ◌<◌, ◌≤◌, ◌≡◌, ℤ, pos, ◌+ℤ◌, ◌-ℤ◌, length, get_or, set, ◌≤ℤ◌}
use mathlib.Core.List.{List, [], ◌∷◌, ◌++◌, head_d}
use Rattle.base.specs.Lists.{up_to}
use Rattle.workfunction.specs.Lists.{least_by}
use Rattle.workfunction.specs.Position.{distance}
use Rattle.workfunction.specs.Movement.{work}

-- the elements at which the first key is least, among equals the second, and so on
unfoldable pub narrowed : List (ℕ → ℕ) → List ℕ → List ℕ
narrowed [] l = l
narrowed (key ∷ keys) l = narrowed keys (least_by key l)

-- of the numbers below k the first by these keys; then the lowest
unfoldable pub preferred : List (ℕ → ℕ) → ℕ → ℕ
preferred keys k = head_d (narrowed keys (up_to k (λ s. s))) 0

-- "C(s) is the present stands with s at r"
abbrev pub moved : List ℕ → ℕ → ℕ → List ℕ
moved stands r s = set stands s r

-- d(s,r): the way of crane s to the call
unfoldable pub drive : (ℕ → ℕ → ℕ) → List ℕ → ℕ → ℕ → ℕ
drive d stands r s = d (get_or stands s 0) r

module _ (d : ℕ → ℕ → ℕ) (n : ℕ) (starts calls stands : List ℕ) (r : ℕ) where
  -- "w is taken with r as the last call"
  abbrev pub work_then : List ℕ → ℕ
  work_then = work d n starts (calls ++ (r ∷ []))

  -- the sum of a single move: w(C(s)) + d(s,r)
  unfoldable pub move_sum : ℕ → ℕ
  move_sum s = work_then (moved stands r s) + drive d stands r s

  -- "The crane chosen has the least w(C(s)) + d(s,r); among equals the least d(s,r); then the lowest number."
  unfoldable pub choice : ℕ
  choice = preferred (move_sum ∷ drive d stands r ∷ []) (length stands)

  -- paper 4: "Net cost here is w(C(s)) less the book's present least": below 0 where the least falls
  unfoldable pub net_cost : ℕ → ℤ
  net_cost s = pos (work_then (moved stands r s)) -ℤ pos (work d n starts calls stands)

  -- A rearrangement is a position C that `Serves` r. "Its sum is w(C), again with r as the last call, plus the distance of
  -- the present stands and C."
  unfoldable pub rearrangement_sum : List ℕ → ℕ
  rearrangement_sum C = work_then C + distance d stands C

-- of k cranes with these net costs and drives, crane s is the one chosen: a field for each clause of paper 4's sentence
pub record Chosen (k : ℕ) (net : ℕ → ℤ) (metres : ℕ → ℕ) (s : ℕ) : Type 0 where
  pub below : s < k
  -- "the smallest net cost plus drive"
  pub sum : (t : ℕ) → t < k → (net s +ℤ pos (metres s)) ≤ℤ (net t +ℤ pos (metres t))
  -- "ties as in a quote": of equal sums the least drive
  pub drive : (t : ℕ) → t < k → net s +ℤ pos (metres s) ≡ net t +ℤ pos (metres t) → metres s ≤ metres t
  -- of equal sums and equal drives the lowest number
  pub number : (t : ℕ) → t < k → net s +ℤ pos (metres s) ≡ net t +ℤ pos (metres t) → metres s ≡ metres t → s ≤ t
