-- Plans and the weights that vouch for them. A plan is a perfect matching of the stops with their followers, and of least cost if
-- there are dual variables, here the weights, with which it is in complementary slackness: if they vouch for it.
-- Stops and followers are numbered alike: the stops are the starts and then the calls, the followers the stands and then the
-- calls. With k cranes and m calls there are N = k + m of each.
use Rattle.std.specs.Prelude.{ℕ, ◌+◌, Bool, true, cond, ◌&&◌, ◌||◌, List, ◌++◌, map, ◌≡◌, ltb, eqb, ℤ, pos, ◌-ℤ◌, length, get_or, replicate}
use Rattle.std.specs.Int.Signed.{le_z}
use Rattle.base.specs.Lists.{up_to}
use Rattle.base.specs.Tests.{all_below}
use Rattle.workfunction.specs.Least.{IsLeast}
use Rattle.workfunction.specs.Lists.{minimum, sum_below, filter, sections}

-- "A start may be followed by any call or any stand; a call by a later call or any stand."
unfoldable pub may_follow : ℕ → ℕ → ℕ → Bool
may_follow k p b = ltb b k || ltb p b

-- 1 where b is the follower of p
unfoldable pub follows : (ℕ → ℕ) → ℕ → ℕ → ℕ
follows f b p = cond (eqb (f p) b) 1 0

-- "Every call and every stand follows exactly one stop."
unfoldable pub once_rule : ℕ → (ℕ → ℕ) → Bool
once_rule N f = all_below N (λ b. eqb (sum_below N (follows f b)) 1)

module _ (k N : ℕ) (f : ℕ → ℕ) where
  -- "Each stop has one follower": one that may follow it
  unfoldable pub followers_rule : Bool
  followers_rule = all_below N (λ p. ltb (f p) N && may_follow k p (f p))

  -- f is a plan, a perfect matching: f p is the follower of p
  unfoldable pub plan_rule : Bool
  plan_rule = followers_rule && once_rule N f

module _ (f : ℕ → ℕ) (c : ℕ → ℕ → ℕ) (y : ℕ → ℤ) where
  -- "y(b) − y(f(p)) ≤ d(p,b) − d(p,f(p))", c p b being d(p,b): the reduced cost of the leg to b is at least that of the plan's own
  unfoldable pub slack_rule : ℕ → ℕ → Bool
  slack_rule p b = le_z (y b -ℤ y (f p)) (pos (c p b) -ℤ pos (c p (f p)))

module _ (k : ℕ) (f : ℕ → ℕ) (c : ℕ → ℕ → ℕ) (y : ℕ → ℤ) where
  -- the same, asked of a "b that may follow p"
  unfoldable pub vouch_at : ℕ → ℕ → Bool
  vouch_at p b = cond (may_follow k p b) (slack_rule f c y p b) true

-- "The weights vouch for the plan if for every stop p and every b that may follow p": that inequality holds. In linear
-- programming: with y as dual variables, plan and weights are in complementary slackness.
unfoldable pub vouch_rule : ℕ → ℕ → (ℕ → ℕ) → (ℕ → ℕ → ℕ) → (ℕ → ℤ) → Bool
vouch_rule k N f c y = all_below N (λ p. all_below N (vouch_at k f c y p))

-- "Its cost is the sum of d from each stop to its follower."
unfoldable pub plan_cost : ℕ → (ℕ → ℕ → ℕ) → (ℕ → ℕ) → ℕ
plan_cost N c f = sum_below N (λ p. c p (f p))

-- every plan, as the list of the followers of all stops
unfoldable pub plans : ℕ → ℕ → List (List ℕ)
plans k N = filter (λ l. plan_rule k N (λ p. get_or l p 0)) (sections (replicate N (up_to N (λ b. b))))

-- the least cost of all plans, c p b being the cost of the leg from p to b
unfoldable pub least_plan : ℕ → ℕ → (ℕ → ℕ → ℕ) → ℕ
least_plan k N c = minimum (map (λ l. plan_cost N c (λ p. get_or l p 0)) (plans k N))

-- the number of stops, and of followers
abbrev pub stops : List ℕ → List ℕ → ℕ
stops starts calls = length starts + length calls

-- the place of a stop, where the list begins with the starts, or of a follower, where it begins with the stands
unfoldable pub place : List ℕ → List ℕ → ℕ → ℕ
place first calls p = get_or (first ++ calls) p 0

module _ (d : ℕ → ℕ → ℕ) (starts calls : List ℕ) where
  -- d(p,b): "For a stop or a crane, d is taken at its place or present stand."
  unfoldable pub leg_cost : List ℕ → ℕ → ℕ → ℕ
  leg_cost stands p b = d (place starts calls p) (place stands calls b)

  -- paper 11: "the least cost of a plan that ends at the starts": a number is that, with d any metres
  abbrev pub LeastOfPlans : ℕ → Type 0
  LeastOfPlans = IsLeast (λ f. plan_rule (length starts) (stops starts calls) f ≡ true) (plan_cost (stops starts calls) (leg_cost starts))

  -- the same as a number that computes
  abbrev pub plan_floor : ℕ
  plan_floor = least_plan (length starts) (stops starts calls) (leg_cost starts)
