-- What the theory asks of the metres between places: the laws of a metric on the places below n, except that two places may be 0
-- metres apart.
use Rattle.std.specs.Prelude.{ℕ, ◌+◌, ◌<◌, ◌≤◌, ◌≡◌}

pub record Metric (n : ℕ) (d : ℕ → ℕ → ℕ) : Type 0 where
  pub self : (u : ℕ) → u < n → d u u ≡ 0
  pub both_ways : (u v : ℕ) → u < n → v < n → d u v ≡ d v u
  pub triangle : (u v w : ℕ) → u < n → v < n → w < n → d u w ≤ d u v + d v w
