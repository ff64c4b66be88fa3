-- A set of numbers below k as a word: no public contract cites these.
use Rattle.std.specs.Prelude.{ℕ, zero, suc, ◌+◌, ◌*◌, ◌<◌, Bool, cond, List, length, get_or}
use Rattle.road.specs.Table.{most_places}

-- binary digit i, from the lowest, is 1 where i passes
unfoldable pub mask_of : ℕ → (ℕ → Bool) → ℕ
mask_of zero P = 0
mask_of (suc k) P = mask_of k (λ i. P (suc i)) * 2 + cond (P 0) 1 0

-- each entry is a place that a table may have
abbrev pub InTable : List ℕ → Type 0
InTable places = (i : ℕ) → i < length places → get_or places i 0 < most_places
