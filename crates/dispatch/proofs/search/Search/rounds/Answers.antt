-- `dispatch::search::Search::rounds` meets its contract: each round settles an open stop of least key, which keeps the invariant.
-- Assumes nothing.
use Prim.Native.Nat.{ℕ, ◌+◌, ◌-◌, ◌<◌, ◌≤◌}
use mathlib.Core.List.{List}
use mathlib.Core.Path.{◌≡◌}
use lib.ListN.{length, set, take}
use lib.Seq.{length-take-le, get_or-take, get_or-set_same, get_or-set_other}
use native.Mathlib.Omega.{arith}
use Rattle.book.specs.Book.{follower}
use Rattle.base.proofs.Lists.{get_or-padded}
use Rattle.dispatch.specs.Legs.{plan_room, leg_at}
use Rattle.dispatch.specs.Search.{at, Keyed, Nearest, Ready, Searched}
use Rattle.dispatch.proofs.search.Laws.{Stored, Least, listed_begun, listed_least, listed_turned, search_begun, search_turned, search_ended, leg-within, keys_low}
use Rattle.dispatch.proofs.search.Search.rounds.Invariants.{Rounding}
use Rattle.dispatch.proofs.search.Search.rounds.Goals as goal
use Rattle.dispatch.proofs.search.Search.rounds.Goals.{After-settle, In-Some}

set_stored : (l : List ℕ) (i x : ℕ) → i < length l → Stored i x (at l) (at (set l i x))
set_stored l i x lt = record { here = get_or-set_same l i x 0 lt; others = λ j ne. get_or-set_other l i j x 0 ne }

-- ---- the stops lent to `pick`: the first n
module _ (stops heads totals : List ℕ) (n left : ℕ) (all : n ≡ left) (fits : n ≤ length stops) where
  first : length (take n stops) ≡ n
  first = length-take-le n stops fits

  lent_keyed : ((i : ℕ) → i < left → at stops i < length heads) → ((i : ℕ) → i < left → at stops i < length totals)
      → ((i : ℕ) → i < left → at totals (at stops i) + at heads (at stops i) < 9223372036854775808) → Keyed (take n stops) heads totals
  lent_keyed headed totalled low =
      let long = first in
      record {
        headed = λ i lt. rw (get_or-take n stops i 0 (omega arith)) (headed i (omega arith));
        totalled = λ i lt. rw (get_or-take n stops i 0 (omega arith)) (totalled i (omega arith));
        low = λ i lt. rw (get_or-take n stops i 0 (omega arith)) (low i (omega arith));
      }

  lent_nearest : {i : ℕ} → Nearest (length (take n stops)) (at (take n stops)) (at heads) (at totals) i
      → Nearest left (at stops) (at heads) (at totals) i
  lent_nearest {i} near =
      let long = first in
      let lt = near.below in
      record {
        below = omega arith;
        least = λ j less. rw (get_or-take n stops i 0 (omega arith), get_or-take n stops j 0 (omega arith)) at (near.least j (omega arith));
      }

-- where the stop that is picked stands
near : (c : In-Some) → Nearest (c.args.new + 1 - c.loop-rank.rank) (at c.loop-rank.stops) (at c.args.heads.now) (at c.loop-rank.self.totals) c.in-Some.i
near c =
    lent_nearest c.loop-rank.stops c.args.heads.now c.loop-rank.self.totals (c.args.new - c.loop-rank.rank + 1) (c.args.new + 1 - c.loop-rank.rank) (omega arith)
    ((omega arith)) c.in-Some.ensures

-- the stop that is picked
picked : (c : In-Some) → Least c.args.new (at c.args.heads.now) (at c.loop-rank.self.totals) (at c.loop-rank.self.ranks) (at c.loop-rank.stops c.in-Some.i)
picked c = listed_least c.loop-rank.invariant.listed (near c)

pub loop-rank-init : goal.loop-rank-init
loop-rank-init c = record {
  listed = listed_begun (omega arith) (λ p lt. rw c.own-stops.ensures (get_or-padded plan_room c.args.new (λ i. i) 0 0 p lt)) c.requires.begun.unsettled;
  settling = search_begun c.requires.ready c.requires.begun;
}

pub pick-requires : goal.pick-requires
pick-requires c = let n = c.args.new - c.loop-rank.rank + 1 in
    let fits : n ≤ length c.loop-rank.stops = omega arith in
    let long = length-take-le n c.loop-rank.stops fits in
    lent_keyed c.loop-rank.stops c.args.heads.now c.loop-rank.self.totals n (c.args.new + 1 - c.loop-rank.rank) (omega arith) fits
    (λ j lt. let b = c.loop-rank.invariant.listed.below j lt in omega arith)
    (λ j lt. let b = c.loop-rank.invariant.listed.below j lt in omega arith)
    (λ j lt. keys_low c.requires.ready c.loop-rank.invariant.settling _ (c.loop-rank.invariant.listed.below j lt))

pub offset_bounds-stops-i : goal.offset_bounds-stops-i
offset_bounds-stops-i c = let lt = (lent_nearest c.loop-rank.stops c.args.heads.now c.loop-rank.self.totals (c.args.new - c.loop-rank.rank + 1) (c.args.new + 1 - c.loop-rank.rank) (omega arith) (omega arith) c.in-Some.ensures).below in omega arith

pub bounds-stops-i : goal.bounds-stops-i
bounds-stops-i c = let lt = (lent_nearest c.loop-rank.stops c.args.heads.now c.loop-rank.self.totals (c.args.new - c.loop-rank.rank + 1) (c.args.new + 1 - c.loop-rank.rank) (omega arith) (omega arith) c.in-Some.ensures).below in omega (arith, c.requires.ready.most)

pub overflow_cast-q : goal.overflow_cast-q
overflow_cast-q c = let lt = c.loop-rank.invariant.listed.below c.in-Some.i (lent_nearest c.loop-rank.stops c.args.heads.now c.loop-rank.self.totals (c.args.new - c.loop-rank.rank + 1) (c.args.new + 1 - c.loop-rank.rank) (omega arith) (omega arith) c.in-Some.ensures).below in omega arith

pub bounds-stops-left : goal.bounds-stops-left
bounds-stops-left c = omega (arith, c.requires.ready.most)

pub offset_bounds-stops-i-in-loop-rank : goal.offset_bounds-stops-i-in-loop-rank
offset_bounds-stops-i-in-loop-rank c = omega (arith, near (goal.at.offset_bounds-stops-i-in-loop-rank c).In-Some)

pub bounds-stops-i-in-loop-rank : goal.bounds-stops-i-in-loop-rank
bounds-stops-i-in-loop-rank c = omega (arith, near (goal.at.bounds-stops-i-in-loop-rank c).In-Some)

pub settle-requires : goal.settle-requires
settle-requires c = let lt = (picked (goal.at.settle-requires c).In-Some).below in
    record {
      few = c.requires.ready.most;
      stop = lt;
      follows = c.requires.ready.below _ lt;
      planned = omega arith;
      costed = c.requires.sized.costed;
      leg = leg-within c.requires.ready c.loop-rank.invariant.settling _ (omega arith);
      most = c.loop-rank.invariant.settling.high _ (omega arith);
    }

-- a round turned
turned : (c : After-settle) → Nearest (c.args.new + 1 - c.loop-rank.rank) (at c.loop-rank.stops) (at c.args.heads.now) (at c.loop-rank.self.totals) c.in-Some.i
    → Least c.args.new (at c.args.heads.now) (at c.loop-rank.self.totals) (at c.loop-rank.self.ranks) (at c.loop-rank.stops c.in-Some.i)
    → Rounding c.args.cranes c.args.new c.args.plan.now c.args.heads.now c.args.costs.now
    (set c.loop-rank.stops c.in-Some.i (at c.loop-rank.stops (c.args.new - c.loop-rank.rank))) c.settle.new.self.totals c.settle.new.self.parents
    c.settle.new.self.ranks (c.loop-rank.rank + 1)
turned c i q = let left = c.args.new - c.loop-rank.rank in
    let moved = set_stored c.loop-rank.stops c.in-Some.i (at c.loop-rank.stops left) (omega arith) in
    let fewer : c.args.new + 1 - (c.loop-rank.rank + 1) ≡ left = omega arith in
    let stored : Stored (at c.loop-rank.stops c.in-Some.i) c.loop-rank.rank (at c.loop-rank.self.ranks) (at c.settle.new.self.ranks) =
    rw c.settle.ensures.0 (set_stored c.loop-rank.self.ranks (at c.loop-rank.stops c.in-Some.i) c.loop-rank.rank (omega arith)) in
    record {
      listed = rw fewer (listed_turned c.loop-rank.invariant.listed (omega arith) i.below (omega arith) moved stored);
      settling = search_turned c.requires.ready c.loop-rank.invariant.settling c.loop-rank-test.true q stored c.settle.ensures.1;
    }

-- the rounds are done: no stop is open
done : {k N i : ℕ} {plan heads costs stops totals parents ranks : List ℕ} → Ready k N (follower plan) (leg_at costs) (at heads)
    → Rounding k N plan heads costs stops totals parents ranks i → N < i
    → Searched k N (follower plan) (leg_at costs) (at totals) (at parents) (at ranks)
done ready r lt = search_ended ready r.settling lt (λ p l o. let h = (r.listed.every p l o).1.0 in absurd (omega arith))

pub loop-rank-preserved : goal.loop-rank-preserved
loop-rank-preserved c = turned (goal.at.loop-rank-preserved c).After-settle (near (goal.at.loop-rank-preserved c).In-Some) (picked (goal.at.loop-rank-preserved c).In-Some)

pub returns-in-Some : goal.returns-in-Some
returns-in-Some c = done c.requires.ready (turned (goal.at.returns-in-Some c).After-settle (near (goal.at.returns-in-Some c).In-Some) (picked (goal.at.returns-in-Some c).In-Some)) (omega arith)

pub returns-in_default : goal.returns-in_default
returns-in_default c = let n = c.args.new - c.loop-rank.rank + 1 in
    let fits : n ≤ length c.loop-rank.stops = omega arith in
    let long = length-take-le n c.loop-rank.stops fits in absurd (omega (arith, c.in_default.ensures))

pub returns : goal.returns
returns c = done c.requires.ready c.loop-rank.invariant c.loop-rank-test.false
