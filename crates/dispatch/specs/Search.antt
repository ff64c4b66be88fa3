-- What the parts of the search for net costs do, of the flip and of the new weights: no public contract cites these. The new
-- call has the number N; totals, parents and ranks are by stop. An open stop, one that is not settled, has the rank `plan_room`. A
-- record whose name ends in `Given` is what a function is given.
use Rattle.std.specs.Prelude.{ℕ, ◌+◌, ◌-◌, ◌<◌, ◌≤◌, true, cond, List, ◌⊎◌, ◌≡◌, ltb, ℤ, pos, nat_abs, neg_ℤ, ◌+ℤ◌, ◌-ℤ◌, length, get_or}
use Rattle.road.specs.Table.{most_metres}
use Rattle.workfunction.specs.NetCost.{StopNets, Chains, Flipped}
use Rattle.workfunction.specs.Plan.{plan_rule, vouch_rule}
use Rattle.book.specs.Book.{follower, weight, range_rule}
use Rattle.book.specs.Weights.{Weighed}
use Rattle.dispatch.specs.Legs.{plan_room, leg_at, Costed}

-- an array by its indices
abbrev pub at : List ℕ → ℕ → ℕ
at xs i = get_or xs i 0

-- net costs are counted from this, so that none is below 0
abbrev pub net_base : ℕ
net_base = 1099511627776

-- weights are raised by this, 2^40 + 2^20, so that none is below a leg
abbrev pub lift : ℕ
lift = 1099512676352

-- the head of a stop: the weight of its follower, raised, less the leg to it
unfoldable pub head_of : ℤ → ℕ → ℕ
head_of y leg = nat_abs (y +ℤ pos lift) - leg

-- what the filling of heads is given: followers in range, weights within theirs, and legs within the limit
pub record HeadsGiven (N : ℕ) (plan : List ℕ) (weights : List ℤ) (costs : List ℕ) : Type 0 where
  pub weighed : Weighed N plan weights
  pub costed : Costed costs
  pub short : (p b : ℕ) → p < N → b < N → leg_at costs p b ≤ most_metres

-- where the stops end that b may follow, of the stops below N
unfoldable pub reach : ℕ → ℕ → ℕ → ℕ
reach k N b = cond (ltb b k) N b

-- at first every stop takes the new call, which is settled
pub record Begun (N : ℕ) (row total parent rank : ℕ → ℕ) : Type 0 where
  pub totals : (p : ℕ) → p ≤ N → total p ≡ net_base + row p
  pub parents : (p : ℕ) → p ≤ N → parent p ≡ N
  pub unsettled : (p : ℕ) → p < N → rank p ≡ plan_room
  pub source : rank N ≡ 0

-- every stop of a list has a head and a total, and its key, their sum, is below 2^63, from which the least is sought
pub record Keyed (stops heads totals : List ℕ) : Type 0 where
  pub headed : (i : ℕ) → i < length stops → at stops i < length heads
  pub totalled : (i : ℕ) → i < length stops → at stops i < length totals
  pub low : (i : ℕ) → i < length stops → at totals (at stops i) + at heads (at stops i) < 9223372036854775808

-- of the first n stops of a list, that at i is one of least key
pub record Nearest (n : ℕ) (stop head total : ℕ → ℕ) (i : ℕ) : Type 0 where
  pub below : i < n
  pub least : (j : ℕ) → j < n → total (stop i) + head (stop i) ≤ total (stop j) + head (stop j)

-- the way over the stop `from`, of net cost `net`, is no better for p
pub record Unbettered (limit net : ℕ) (row total parent total' parent' : ℕ → ℕ) (p : ℕ) : Type 0 where
  pub same : total' p ≡ total p
  pub parented : parent' p ≡ parent p
  pub least : p < limit → total p ≤ net + row p

-- it is better, and p takes it
pub record Bettered (limit net from : ℕ) (row total total' parent' : ℕ → ℕ) (p : ℕ) : Type 0 where
  pub below : p < limit
  pub less : net + row p < total p
  pub taken : total' p ≡ net + row p
  pub parented : parent' p ≡ from

-- one row of work: one or the other holds of each stop
pub record Relaxed (limit net from : ℕ) (row total parent total' parent' : ℕ → ℕ) : Type 0 where
  pub each : (p : ℕ) → Unbettered limit net row total parent total' parent' p ⊎ Bettered limit net from row total total' parent' p

-- what a settled stop's row of work is given: the stop q, whose total holds the leg to its follower
pub record SettleGiven (N : ℕ) (plan costs : List ℕ) (q : ℕ) (totals : List ℕ) : Type 0 where
  pub few : N < plan_room
  pub stop : q < N
  pub follows : follower plan q < N
  pub planned : N < length plan
  pub costed : Costed costs
  pub leg : leg_at costs q (follower plan q) ≤ at totals q
  pub most : at totals q ≤ net_base + most_metres

-- what the rounds stand on: a plan of N stops, leg costs within the limit of a leg, and heads that vouch, up to 2^42
pub record Ready (k N : ℕ) (f : ℕ → ℕ) (c : ℕ → ℕ → ℕ) (head : ℕ → ℕ) : Type 0 where
  pub most : N < plan_room
  pub below : (p : ℕ) → p < N → f p < N
  pub new : f N ≡ N
  pub cost : (p b : ℕ) → p ≤ N → b ≤ N → c p b ≤ most_metres
  pub high : (p : ℕ) → p < N → head p ≤ 4398046511104
  pub vouched : (p q : ℕ) → p < N → q < N → (f q < k) ⊎ (p < f q) → head q + c q (f q) ≤ head p + c p (f q)

-- the lists of a search are long enough
pub record Sized (N : ℕ) (plan costs : List ℕ) : Type 0 where
  pub planned : N < length plan
  pub costed : Costed costs

-- what the rounds are given: at first every stop below N is open, and takes the new call
pub record RoundsGiven (k N : ℕ) (plan heads costs totals parents ranks : List ℕ) : Type 0 where
  pub headed : N ≤ length heads
  pub sized : Sized N plan costs
  pub ready : Ready k N (follower plan) (leg_at costs) (at heads)
  pub begun : Begun N (λ p. leg_at costs p N) (at totals) (at parents) (at ranks)

-- a plan of N stops with weights that vouch for it, c p b being the cost of the leg from p to b
pub record Certified (k N : ℕ) (plan : List ℕ) (weights : List ℤ) (c : ℕ → ℕ → ℕ) : Type 0 where
  pub planned : plan_rule k N (follower plan) ≡ true
  pub ranged : range_rule N (weight weights) ≡ true
  pub vouched : vouch_rule k N (follower plan) c (weight weights) ≡ true

-- what the search begins from: such a plan, with room for one more call, the legs of which are within the limit too
pub record Witnessed (k N : ℕ) (plan : List ℕ) (weights : List ℤ) (costs : List ℕ) : Type 0 where
  pub few : N < plan_room
  pub weighed : N ≤ length weights
  pub certified : Certified k N plan weights (leg_at costs)
  pub short : (p b : ℕ) → p ≤ N → b ≤ N → leg_at costs p b ≤ most_metres

-- what the search is given: the new call is followed by itself for the moment
pub record SearchGiven (k N : ℕ) (plan : List ℕ) (weights : List ℤ) (costs : List ℕ) : Type 0 where
  pub self : follower plan N ≡ N
  pub sized : Sized N plan costs
  pub witnessed : Witnessed k N plan weights costs

-- a stop's total is its net cost and the leg to its follower
pub record Totalled (N : ℕ) (f : ℕ → ℕ) (c : ℕ → ℕ → ℕ) (total : ℕ → ℕ) : Type 0 where
  pub legs : (p : ℕ) → p ≤ N → c p (f p) ≤ total p
  pub most : (p : ℕ) → p ≤ N → total p ≤ net_base + most_metres

-- the net cost of p
abbrev pub net_of : (ℕ → ℕ) → (ℕ → ℕ → ℕ) → (ℕ → ℕ) → ℕ → ℕ
net_of f c total p = total p - c p (f p)

-- what the search delivers
pub record Searched (k N : ℕ) (f : ℕ → ℕ) (c : ℕ → ℕ → ℕ) (total parent rank : ℕ → ℕ) : Type 0 where
  pub totals : Totalled N f c total
  pub nets : StopNets k N net_base f c (net_of f c total) parent rank

-- every follower up to N follows one stop
pub record Matched (N : ℕ) (f : ℕ → ℕ) : Type 0 where
  pub below : (p : ℕ) → p ≤ N → f p ≤ N
  pub only : (p q : ℕ) → p ≤ N → q ≤ N → f p ≡ f q → p ≡ q

-- what the flip is given: a stop t whose chain of parents ends at the new call
pub record FlipGiven (N t : ℕ) (parents ranks plan : List ℕ) : Type 0 where
  pub few : N < plan_room
  pub stop : t ≤ N
  pub planned : N < length plan
  pub chains : Chains N (at parents) (at ranks)

-- the flip of a plan along the chain of a stop; followers past the new call are as they were
pub record PlanFlipped (N t : ℕ) (parents plan plan' : List ℕ) : Type 0 where
  pub flipped : Flipped N (follower plan) (at parents) t (follower plan')
  pub past : (p : ℕ) → N < p → follower plan' p ≡ follower plan p

-- what the renewal of weights is given
pub record RenewGiven (N : ℕ) (plan totals costs : List ℕ) (weights : List ℤ) : Type 0 where
  pub few : N < plan_room
  pub planned : N < length plan
  pub totals_long : N < length totals
  pub weighed : N < length weights
  pub costed : Costed costs
  pub matched : Matched N (follower plan)
  pub totalled : Totalled N (follower plan) (leg_at costs) (at totals)

-- the new weights: the negated net costs
pub record Reweighed (N : ℕ) (f net : ℕ → ℕ) (old y : ℕ → ℤ) : Type 0 where
  pub renewed : (q : ℕ) → q ≤ N → y (f q) ≡ neg_ℤ (pos (net q) -ℤ pos net_base)
  pub past : (b : ℕ) → N < b → y b ≡ old b
