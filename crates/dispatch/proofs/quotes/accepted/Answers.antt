-- `dispatch::quotes::accepted` meets its contract: the crane is the least end, its way from the new call is the drive, and the cost of the
-- kept plan with its net cost is the least. Assumes nothing.
use Prim.Native.Nat.{ℕ, ◌+◌, ◌-◌, ◌*◌, ◌<◌, ◌≤◌}
use mathlib.Core.Path.{◌≡◌, sym, ap, subst}
use borrow.Author.Rules.{rules}
use lib.ListN.{length}
use native.Mathlib.Omega.{arith}
use Rattle.road.specs.Table.{most_metres}
use Rattle.dayfile.specs.Day.{most_cranes}
use Rattle.workfunction.specs.Plan.{plan_cost}
use Rattle.workfunction.proofs.Keys.{preferred_below}
use Rattle.workfunction.proofs.Plan.{plan_facts}
use Rattle.book.specs.Book.{most_stops, stops_of, follower, BookArrays}
use Rattle.dispatch.specs.Legs.{leg_at}
use Rattle.dispatch.specs.Search.{at, net_base}
use Rattle.dispatch.proofs.Called.{Called, quote_called}
use Rattle.dispatch.proofs.quotes.Laws.{sum-within, quote_told}
use Rattle.dispatch.proofs.quotes.accepted.Goals as goal
use Rattle.dispatch.proofs.quotes.accepted.Goals.{After-choose-crane, After-cost, Start}

-- the call may be quoted
called : (c : Start) → Called c.args.book c.requires.0 c.args.table.now c.args.place
called c = quote_called c.requires.1

arrays : (c : Start) → BookArrays c.args.book
arrays c = record { starts = search rules; stands = search rules; requests = search rules; driven = search rules }

plan_long : (c : Start) → length c.args.book.plan ≡ most_stops
plan_long c = search rules

-- the crane is one of the cranes
sent : (c : After-choose-crane) → c.choose-crane.result < c.args.book.cranes
sent c =
    let called_here : Called c.args.book c.requires.0 c.args.table.now c.args.place = quote_called c.requires.1
    in
    subst (λ (x : ℕ). x < c.args.book.cranes) (sym c.choose-crane.ensures) (preferred_below _ c.args.book.cranes (called_here).sound.counts.crane)

sent_low : (c : After-choose-crane) → c.choose-crane.result < most_cranes
sent_low c =
    let called_here : Called c.args.book c.requires.0 c.args.table.now c.args.place = quote_called c.requires.1
    in
    omega (arith, sent c, (called_here).sound.counts.cranes)

-- the cost of the kept plan and the crane's net cost
summed : (c : After-cost) → let sum = plan_cost (stops_of c.args.book) (leg_at c.of_book-ends.new.costs) (follower c.args.book.plan) + at c.of_book-ends.result.nets c.choose-crane.result in
    (net_base ≤ sum) × (sum ≤ net_base + (most_stops + 1) * most_metres)
summed c =
    let called_here : Called c.args.book c.requires.0 c.args.table.now c.args.place = quote_called c.requires.1
    in
    let arrays_here : BookArrays c.args.book = record { starts = search rules; stands = search rules; requests = search rules; driven = search rules }
    in
    let sent_here : c.choose-crane.result < c.args.book.cranes = subst (λ (x : ℕ). x < c.args.book.cranes) (sym c.choose-crane.ensures) (preferred_below _ c.args.book.cranes (called_here).sound.counts.crane)
    in
    sum-within (arrays_here) (called_here) (c.of_book-ends.ensures _ c.requires.1) c.choose-crane.result (sent_here)

pub overflow_add-new : goal.overflow_add-new
overflow_add-new c = let k = (called (goal.at.overflow_add-new c).Start).sound.counts in omega arith

pub of_book-ends-requires : goal.of_book-ends-requires
of_book-ends-requires c = record { places = c.requires.0; accepted = c.requires.1; costed = c.zeros-costs.ensures }

pub choose-crane-requires : goal.choose-crane-requires
choose-crane-requires c = let k = (called (goal.at.choose-crane-requires c).Start).sound.counts in
    record {
      crane = k.crane;
      cranes = k.cranes;
      few = omega (arith, (called (goal.at.choose-crane-requires c).Start).space);
      costed = (c.of_book-ends.ensures _ c.requires.1).costed;
      low = (c.of_book-ends.ensures _ c.requires.1).low;
    }

pub cost-least-requires : goal.cost-least-requires
cost-least-requires c = let k = (called (goal.at.cost-least-requires c).Start).sound.counts in
    record {
      few = omega arith;
      planned = omega (arith, plan_long (goal.at.cost-least-requires c).Start);
      costed = (c.of_book-ends.ensures _ c.requires.1).costed;
      below = (plan_facts _ _ _ (called (goal.at.cost-least-requires c).Start).sound.plan).below;
    }

pub cost-requires : goal.cost-requires
cost-requires c = (
  omega (arith, (called (goal.at.cost-requires c).Start).sound.counts.cranes, (called (goal.at.cost-requires c).Start).space),
  (omega (arith, sent_low (goal.at.cost-requires c).After-choose-crane), (c.of_book-ends.ensures _ c.requires.1).costed),
)

pub offset_bounds-ends-crane : goal.offset_bounds-ends-crane
offset_bounds-ends-crane c = omega (arith, sent_low (goal.at.offset_bounds-ends-crane c).After-choose-crane)

pub bounds-ends-crane : goal.bounds-ends-crane
bounds-ends-crane c = sent_low (goal.at.bounds-ends-crane c).After-choose-crane

pub overflow_add-result : goal.overflow_add-result
overflow_add-result c = let sum = summed (goal.at.overflow_add-result c).After-cost in omega arith

pub overflow_sub-result : goal.overflow_sub-result
overflow_sub-result c = let sum = summed (goal.at.overflow_sub-result c).After-cost in omega arith

pub returns : goal.returns
returns c = λ n h.
    quote_told (arrays (goal.at.returns c).Start) (quote_called h) (c.of_book-ends.ensures n h) c.choose-crane.ensures c.cost.ensures
    (ap (λ (x : ℕ). x + at c.of_book-ends.result.nets c.choose-crane.result - net_base) c.cost-least.ensures)
