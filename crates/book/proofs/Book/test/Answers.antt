-- `book::Book::test` meets its contract: each refusal is handed up, and where none applies the next test decides.
-- Assumes nothing.
use Prim.Native.Nat.{ℕ, ◌<◌, ◌≤◌}
use mathlib.Core.Path.{◌≡◌, sym, ap, ◌∙◌}
use borrow.Author.Rules.{rules}
use lib.IntN.{pos}
use lib.ListN.{length, take}
use lib.Seq.{length-take-le, get_or-take}
use native.Mathlib.Nat.{le_trans}
use native.Mathlib.Omega.{arith}
use Rattle.base.specs.Numbers.{unless, ◌then◌}
use Rattle.base.proofs.Numbers.{up, holds, asked_again, goes_on, handed_up}
use Rattle.road.specs.Table.{Table, most_places, metres_of, entry, run_refusal}
use Rattle.road.proofs.Table.{entry_in}
use Rattle.dayfile.specs.Day.{stops_refusal}
use Rattle.dayfile.proofs.Limits.{Placed, day_placed, run_tested}
use Rattle.workfunction.specs.Plan.{leg_cost}
use Rattle.workfunction.proofs.Plan.{plan_facts}
use Rattle.book.specs.declared.Book.{Book}
use Rattle.book.specs.Book.{most_stops, starts_of, stands_of, requests_of, stops_of, follower, plan_refusal, weights_refusal, book_day, book_refusal}
use Rattle.book.proofs.Ignored.{same_plan}
use Rattle.book.proofs.Places.{same-costs}
use Rattle.book.proofs.Sound.{Fits, fit, starts-long}
use Rattle.book.proofs.Vouching.{same_weights}
use Rattle.book.proofs.Book.test.Goals as goal
use Rattle.book.proofs.Book.test.Goals.{In_ok-test_placed}

-- what the tests of starts and calls tell
day : (c : In_ok-test_placed) → Placed (book_day c.args.self c.args.places) c.args.table.now
day c = day_placed _ _ (sym c.in_ok-test_placed.ensures)

fits : (c : In_ok-test_placed) → Fits c.args.self
fits c =
    let counts = (day c).counts in
    fit (record { starts = search rules; stands = search rules; requests = search rules; driven = search rules }) counts.cranes counts.calls

-- as many followers and weights as stops
record Long (book : Book) : Type 0 where
  most : stops_of book ≤ most_stops
  plan : stops_of book ≤ length book.plan
  weights : stops_of book ≤ length book.weights

long : (c : In_ok-test_placed) → Long c.args.self
long c =
    let counts = (day c).counts in
    let plan : length c.args.self.plan ≡ most_stops = search rules in
    let weights : length c.args.self.weights ≡ most_stops = search rules in
    record { most = omega arith; plan = omega arith; weights = omega arith }

-- the run, asked again, leaves the triangle rule to decide
ways : (c : In_ok-test_placed) (s r : ℕ) → s ≡ (run_refusal c.args.places (length c.args.table.now) then r) → s ≡ r
ways c s r e = asked_again _ r s (run_tested _ _ _ _ (day c).counts) e

-- the followers and the weights of the stops are those at the front of the arrays
module _ (book : Book) (l : Long book) where
  plan_long : length (take (stops_of book) book.plan) ≡ stops_of book
  plan_long = length-take-le (stops_of book) book.plan l.plan

  weights_long : length (take (stops_of book) book.weights) ≡ stops_of book
  weights_long = length-take-le (stops_of book) book.weights l.weights

  followers : (p : ℕ) → p < stops_of book → follower (take (stops_of book) book.plan) p ≡ follower book.plan p
  followers p lt = get_or-take (stops_of book) book.plan p 0 lt

  planned : plan_refusal book.cranes (length (take (stops_of book) book.plan)) (take (stops_of book) book.plan) ≡ plan_refusal book.cranes (stops_of book) book.plan
  planned = rw plan_long (ap (λ r. unless r 9) (same_plan book.cranes (stops_of book) _ _ followers))

  -- over what is read off the table as over its metres
  vouched : (n : ℕ) (t : Table) → Fits book → Placed (book_day book n) t → 0 ≡ stops_refusal n (stands_of book)
      → 0 ≡ plan_refusal book.cranes (length (take (stops_of book) book.plan)) (take (stops_of book) book.plan)
      → weights_refusal (length (starts_of book)) (length (take (stops_of book) book.plan)) (take (stops_of book) book.plan) (take (stops_of book) book.weights)
      (leg_cost (entry (metres_of t)) (starts_of book) (requests_of book) (stands_of book))
      ≡ weights_refusal book.cranes (stops_of book) book.plan book.weights
      (leg_cost (metres_of t) (starts_of book) (requests_of book) (stands_of book))
  vouched n t fits day stands planned =
      let most : (u : ℕ) → u < n → u < most_places = λ u h. le_trans h day.counts.places in
      rw (starts-long fits, plan_long)
      (same_weights book.cranes (stops_of book) _ _ _ _ book.plan book.weights (holds _ 8 (rw plan_long at planned)) followers
      (λ b lt. get_or-take (stops_of book) book.weights b (pos 0) lt)
      (λ p b h l. same-costs day.counts.place (starts_of book) (requests_of book) (stands_of book) day.starts day.requests (holds _ 4 stands)
      (entry (metres_of t)) (metres_of t) (λ u v h l. entry_in (metres_of t) u v (most u h) (most v l)) p b))

pub returns-in_err-test_placed : goal.returns-in_err-test_placed
unfolding book_refusal
returns-in_err-test_placed c = up _ _ _ c.from_residual.ensures.1 (handed_up _ _ _ c.in_err-test_placed.ensures)

pub shared_ref_as_front-test_stops : goal.shared_ref_as_front-test_stops
shared_ref_as_front-test_stops c = (day (goal.at.shared_ref_as_front-test_stops c).In_ok-test_placed).counts.cranes

pub returns-in_err-test_stops : goal.returns-in_err-test_stops
unfolding book_refusal
returns-in_err-test_stops c = up _ _ _ c.from_residual-in_err-test_stops.ensures.1
    (goes_on _ _ _ c.in_ok-test_placed.ensures
    (handed_up _ _ _ c.in_err-test_stops.ensures))

pub returns-in_err-test_triangles : goal.returns-in_err-test_triangles
unfolding book_refusal
returns-in_err-test_triangles c = up _ _ _ c.from_residual-in_err-test_triangles.ensures.1
    (goes_on _ _ _ c.in_ok-test_placed.ensures
    (goes_on _ _ _ c.in_ok-test_stops.ensures
    (handed_up _ _ _ (ways (goal.at.returns-in_err-test_triangles c).In_ok-test_placed _ _ c.in_err-test_triangles.ensures))))

pub overflow_add-stops : goal.overflow_add-stops
overflow_add-stops c = let few = long (goal.at.overflow_add-stops c).In_ok-test_placed in record { fits = omega arith }

pub shared_ref_as_front-test : goal.shared_ref_as_front-test
shared_ref_as_front-test c = (long (goal.at.shared_ref_as_front-test c).In_ok-test_placed).most

pub returns-in_err-test : goal.returns-in_err-test
unfolding book_refusal
returns-in_err-test c = let early = (goal.at.returns-in_err-test c).In_ok-test_placed in
    up _ _ _ c.from_residual-in_err-test.ensures.1
    (goes_on _ _ _ c.in_ok-test_placed.ensures
    (goes_on _ _ _ c.in_ok-test_stops.ensures
    (goes_on _ _ _ (ways early _ _ c.in_ok-test_triangles.ensures)
    (handed_up _ _ _ (c.in_err-test.ensures ∙ planned _ (long early))))))

pub shared_ref_as_front-witness-2 : goal.shared_ref_as_front-witness-2
shared_ref_as_front-witness-2 c = (day (goal.at.shared_ref_as_front-witness-2 c).In_ok-test_placed).counts.calls

pub test-requires-2 : goal.test-requires-2
test-requires-2 c = let few = long (goal.at.test-requires-2 c).In_ok-test_placed in
    let plan = plan_long _ few in
    let weights = weights_long _ few in (
      omega arith,
      record {
        most = omega arith;
        planned = omega arith;
        weighed = omega arith;
        below = (plan_facts _ _ _ (holds _ 8 c.in_ok-test.ensures)).below;
      },
    )

pub returns-in_err-test-2 : goal.returns-in_err-test-2
unfolding book_refusal
returns-in_err-test-2 c = let early = (goal.at.returns-in_err-test-2 c).In_ok-test_placed in
    up _ _ _ c.from_residual-in_err-test-2.ensures.1
    (goes_on _ _ _ c.in_ok-test_placed.ensures
    (goes_on _ _ _ c.in_ok-test_stops.ensures
    (goes_on _ _ _ (ways early _ _ c.in_ok-test_triangles.ensures)
    (goes_on _ _ _ (c.in_ok-test.ensures ∙ planned _ (long early))
    (handed_up _ _ _ (c.in_err-test-2.ensures ∙ vouched _ (long early) _ _ (fits early) (day early) c.in_ok-test_stops.ensures c.in_ok-test.ensures))))))

pub returns : goal.returns
unfolding book_refusal
returns c = let early = (goal.at.returns c).In_ok-test_placed in
    goes_on _ _ _ c.in_ok-test_placed.ensures
    (goes_on _ _ _ c.in_ok-test_stops.ensures
    (goes_on _ _ _ (ways early _ _ c.in_ok-test_triangles.ensures)
    (goes_on _ _ _ (c.in_ok-test.ensures ∙ planned _ (long early))
    (goes_on _ _ _ (c.in_ok-test-2.ensures ∙ vouched _ (long early) _ _ (fits early) (day early) c.in_ok-test_stops.ensures c.in_ok-test.ensures)
    c.test-3.ensures))))
