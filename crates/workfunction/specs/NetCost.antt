-- Net costs by stop, by which a plan takes in one more call; those of the cranes, which a caller is told, are `net_cost` of Choice. The
-- new call has the number N, as a stop and as a follower; f is the kept plan, in which N is followed by itself for the moment.
use Rattle.std.specs.Prelude.{ℕ, ◌+◌, ◌<◌, ◌≤◌, ◌⊎◌, ◌≡◌}
use Rattle.workfunction.specs.Lists.{sum_below}
use Rattle.workfunction.specs.Plan.{follows}

-- N is settled first, and every other stop has a parent that is settled before it, so that every chain of parents ends in N.
pub record Chains (N : ℕ) (parent rank : ℕ → ℕ) : Type 0 where
  pub first : rank N ≡ 0
  pub below : (p : ℕ) → p < N → parent p ≤ N
  pub earlier : (p : ℕ) → p < N → rank (parent p) < rank p

-- net p is what it costs to free the follower of p: p takes the follower of another stop, which takes that of a third, and the
-- last takes N. It may be negative, so all are raised alike, from base.
pub record StopNets (k N base : ℕ) (f : ℕ → ℕ) (c : ℕ → ℕ → ℕ) (net parent rank : ℕ → ℕ) : Type 0 where
  pub source : net N ≡ base
  -- no chain by way of a stop q is cheaper
  pub least : (p q : ℕ) → p < N → q ≤ N → (f q < k) ⊎ (p < f q) → net p + c p (f p) ≤ net q + c p (f q)
  -- the chain by way of the parent attains it
  pub attained : (p : ℕ) → p < N → net p + c p (f p) ≡ net (parent p) + c p (f (parent p))
  pub allowed : (p : ℕ) → p < N → (f (parent p) < k) ⊎ (p < f (parent p))
  pub chains : Chains N parent rank
  pub ranked : (p : ℕ) → p ≤ N → rank p ≤ N

-- every follower follows as many stops in g as in f
abbrev pub SameCounts : ℕ → (ℕ → ℕ) → (ℕ → ℕ) → Type 0
SameCounts N f g = (b : ℕ) → sum_below (N + 1) (follows g b) ≡ sum_below (N + 1) (follows f b)

-- g is the plan f with the follower of stop t freed, flipped along the augmenting path of parents from t to N: N takes that
-- follower, and every other stop keeps its own or takes its parent's
pub record Flipped (N : ℕ) (f parent : ℕ → ℕ) (t : ℕ) (g : ℕ → ℕ) : Type 0 where
  pub freed : g N ≡ f t
  pub taken : (p : ℕ) → p < N → (g p ≡ f p) ⊎ (g p ≡ f (parent p))
  pub counts : SameCounts N f g
