-- What the tests of weights stand on: no public contract cites these.
use Rattle.std.specs.Prelude.{ℕ, ◌<◌, ◌≤◌, Bool, true, List, ◌≡◌, ℤ, length}
use Rattle.base.specs.Tests.{all_below}
use Rattle.road.specs.Table.{metres_of, entry}
use Rattle.workfunction.specs.Plan.{vouch_at, leg_cost}
use Rattle.book.specs.Book.{most_stops, follower, weight, weight_rule}
use Rattle.book.specs.declared.weights.Witness.{Witness}

-- n followers in range, with their weights
pub record Followed (n : ℕ) (plan : List ℕ) (weights : List ℤ) : Type 0 where
  pub most : n ≤ most_stops
  pub planned : n ≤ length plan
  pub weighed : n ≤ length weights
  pub below : (p : ℕ) → p < n → follower plan p < n

-- the same, each weight within its range
pub record Weighed (n : ℕ) (plan : List ℕ) (weights : List ℤ) : Type 0 where
  pub followed : Followed n plan weights
  pub ranged : (b : ℕ) → b < n → weight_rule (weight weights b) ≡ true

-- the cost of the leg from stop p to follower b, as it is read off the table
abbrev pub cost : Witness → ℕ → ℕ → ℕ
cost w = leg_cost (entry (metres_of w.table.now)) w.starts.now w.calls.now w.stands.now

-- the inequality of stop p and follower b, asked where b may follow p
abbrev pub vouches : Witness → ℕ → ℕ → Bool
vouches w = vouch_at (length w.starts.now) (follower w.plan.now) (cost w) (weight w.weights.now)

-- that of stop p and every b
abbrev pub vouch_from : Witness → ℕ → Bool
vouch_from w p = all_below (length w.plan.now) (vouches w p)
