-- The fresh book of an accepted day is sound. Assumes nothing.
use Prim.Native.Nat.{ℕ, ◌+◌, ◌*◌, ◌<◌, ◌≤◌, zero-le}
use mathlib.Core.Bool.{true, cond}
use mathlib.Core.List.{List, []}
use mathlib.Core.Path.{◌≡◌, refl, sym, ap, ◌∙◌}
use Rattle.std.specs.Prelude.{Result, IsErrAnd}
use Rattle.base.specs.declared.Refusal.{Refusal}
use Rattle.base.specs.Numbers.{refusal_number}
use Rattle.base.proofs.Numbers.{exits, zeros_told, refused_number}
use Rattle.book.specs.declared.Book.{Book}
use borrow.Author.Tests.{lt-ltb, le-leb, eq-eqb, ne_eqb}
use lib.Dec.{eqb}
use lib.IntN.{ℤ, pos}
use lib.ListN.{length, get_or, take, replicate, length-replicate, get_or-replicate}
use lib.Seq.{length-take-le, get_or-take}
use native.Mathlib.Decide.{ℕ_discrete}
use native.Mathlib.Nat.{add-zero}
use native.Mathlib.Omega.{arith}
use Rattle.base.specs.Lists.{up_to, padded}
use Rattle.base.specs.Metric.{Metric}
use Rattle.base.specs.Tests.{all_below}
use Rattle.base.proofs.Lists.{length-up_to, get_or-up_to, get_or-padded, take-padded, take-up_to, replicate-at}
use Rattle.base.proofs.Tests.{below_all}
use Rattle.road.specs.Table.{Table, most_metres, metres_of}
use Rattle.road.proofs.Surveyed.{surveyed_metric}
use Rattle.dayfile.specs.declared.Day.{Day}
use Rattle.dayfile.specs.Day.{most_cranes, stops_rule, placed_refusal, DayArrays, day_refusal}
use Rattle.dayfile.proofs.Limits.{Tested, day-tested, placed_accepted, stops_at}
use Rattle.workfunction.specs.Plan.{may_follow, follows, followers_rule, once_rule, plan_rule, slack_rule, vouch_at, vouch_rule, place, leg_cost}
use Rattle.workfunction.proofs.Stops.{place_stand}
use Rattle.workfunction.proofs.Sums.{sum_same, sum_one}
use Rattle.book.specs.Book.{most_stops, follower, weight, weight_rule, range_rule, driven_rule, book_day, book_refusal, fresh_book, empty_book, Opened, opening, fresh_of}
use Rattle.book.proofs.Metres.{driven-within}

eqb_both_ways : (a b : ℕ) → eqb a b ≡ eqb b a
eqb_both_ways a b = either (ℕ_discrete a b)
  where
    either : Dec (a ≡ b) → eqb a b ≡ eqb b a
    either (yes e) = rw e
    either (no n) = ne_eqb a b n ∙ sym (ne_eqb b a (λ e. n (sym e)))

-- without a call: k stops, each followed by its own stand
module _ (k : ℕ) (f : ℕ → ℕ) (own : (p : ℕ) → p < k → f p ≡ p) where
  own_followers : followers_rule k k f ≡ true
  unfolding followers_rule may_follow
  own_followers = below_all _ k (λ p h. rw (own p h, lt-ltb p k h))

  own_once : once_rule k f ≡ true
  unfolding once_rule follows
  own_once = below_all _ k (λ b h. eq-eqb _ 1
      (sum_same k _ (λ p. cond (eqb b p) 1 0) (λ p l. rw (own p l, eqb_both_ways p b)) ∙ sum_one k b (λ p. 1) h))

  pub own_plan : plan_rule k k f ≡ true
  unfolding plan_rule
  own_plan = rw own_followers own_once

-- weights that are all 0
module _ (k : ℕ) (y : ℕ → ℤ) (none : (b : ℕ) → b < k → y b ≡ pos 0) where
  pub none_ranged : range_rule k y ≡ true
  unfolding weight_rule
  none_ranged = below_all _ k (λ b h. rw (none b h))

  -- the way to its own follower costs a stop nothing
  pub none_vouch : (f : ℕ → ℕ) (c : ℕ → ℕ → ℕ) → ((p : ℕ) → p < k → f p ≡ p) → ((p : ℕ) → p < k → c p p ≡ 0) → vouch_rule k k f c y ≡ true
  unfolding vouch_rule vouch_at slack_rule may_follow
  none_vouch f c own self =
      below_all _ k (λ p h. below_all _ k (λ b l. rw (lt-ltb b k l, own p h, none p h, none b l, self p h) (le-leb 0 (c p b + 0) zero-le)))

-- the plan and the weights of a fresh book of k cranes
module _ (k : ℕ) where
  own : (p : ℕ) → p < k → follower (padded most_stops k (λ j. j) 0) p ≡ p
  own = get_or-padded most_stops k (λ j. j) 0 0

  fresh_plan : plan_rule k k (follower (padded most_stops k (λ j. j) 0)) ≡ true
  fresh_plan = own_plan k _ own

  module _ (most : k ≤ most_stops) where
    none : (b : ℕ) → b < k → weight (replicate most_stops (pos 0)) b ≡ pos 0
    none b lt = get_or-replicate most_stops b (pos 0) (pos 0) (omega arith)

    fresh_range : range_rule k (weight (replicate most_stops (pos 0))) ≡ true
    fresh_range = none_ranged k _ none

    fresh_vouch : (c : ℕ → ℕ → ℕ) → ((p : ℕ) → p < k → c p p ≡ 0)
        → vouch_rule k k (follower (padded most_stops k (λ j. j) 0)) c (weight (replicate most_stops (pos 0))) ≡ true
    fresh_vouch c self = none_vouch k _ none _ c own self

-- the metres of its cranes: none exceeds any most
fresh_driven : (k most : ℕ) → k ≤ most_cranes → driven_rule most (take k (replicate most_cranes 0)) ≡ true
fresh_driven k most few =
    let none : List ℕ = replicate most_cranes 0 in
    let long : length (take k none) ≡ k = length-take-le k none (rw length-replicate few) in
    driven-within most (take k none) (λ j h. rw (get_or-take k none j 0 (rw long at h), replicate-at {A = ℕ} most_cranes j 0) zero-le)

module _ (day : Day) (t : Table) (arrays : DayArrays day) (h : day_refusal day t ≡ 0) where
  abbrev k : ℕ
  k = day.cranes

  abbrev start : ℕ → ℕ
  start j = get_or day.starts j 0

  abbrev starts : List ℕ
  starts = up_to k start

  tests : Tested day t
  tests = day-tested day t h

  laws : Metric day.places (metres_of t)
  laws = surveyed_metric tests.surveyed

  started : stops_rule day.places starts ≡ true
  started = rw (← take-up_to k day.starts 0 (rw arrays.starts tests.counts.cranes)) tests.starts

  -- each crane stands at its start
  no_way : (p : ℕ) → p < k → leg_cost (metres_of t) starts [] starts p p ≡ 0
  unfolding leg_cost
  no_way p lt =
      let at : place starts [] p ≡ start p = place_stand starts [] p (rw length-up_to lt) ∙ get_or-up_to k start p 0 lt in
      rw at (laws.self (start p) (stops_at day.places k start started p lt))

  most : k ≤ most_stops
  most = omega (arith, tests.counts)

  -- what is tested of the fresh book as of a day
  fresh_placed : placed_refusal (book_day (fresh_book k day.starts) day.places) t ≡ 0
  unfolding fresh_book all_below
  fresh_placed =
      let c = tests.counts in
      placed_accepted (book_day (fresh_book k day.starts) day.places) t
      (record {
        counts = record { place = c.place; places = c.places; legs = c.legs; crane = c.crane; cranes = c.cranes; calls = zero-le };
        legs = tests.surveyed.legs;
        starts = rw (take-padded most_cranes k start 0) started;
        requests = refl;
      })

  -- "A fresh book .. is sound."
  pub fresh_sound : book_refusal (fresh_book day.cranes day.starts) day.places t ≡ 0
  unfolding book_refusal fresh_book
  fresh_sound =
      rw (fresh_placed, take-padded most_cranes k start 0, started, tests.surveyed.triangles, add-zero k, fresh_plan k, fresh_range k most)
      (rw (fresh_vouch k most _ no_way, fresh_driven k (most_metres * 0) tests.counts.cranes))

-- opening a day: a refusal is handed up, and an accepted day has few enough cranes for its fresh book
module _ (day : Day) (t : Table) where
  pub few_cranes : 0 ≡ day_refusal day t → day.cranes ≤ most_cranes
  few_cranes h = (day-tested day t (sym h)).counts.cranes

  pub refused : (r : Result Book Refusal) (x : Refusal) → IsErrAnd r (λ y. y ≡ x) → refusal_number x ≡ day_refusal day t → opening r ≡ fresh_of day t
  unfolding fresh_of
  refused r x h e =
      ap opening (exits r x h)
      ∙ rw (← e) (zeros_told (refusal_number x) _ (λ m. record { number = m; book = empty_book }) (refused_number x))

  pub opened : (book : Book) → 0 ≡ day_refusal day t → book ≡ fresh_book day.cranes day.starts
      → ◌≡◌ {A = Opened} (record { number = 0; book = book }) (fresh_of day t)
  unfolding fresh_of
  opened book e q = rw (← e, q)
