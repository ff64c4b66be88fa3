-- What a sound book gives: its rules, its metres, its stops and stands as the work function takes them, and w of its stands as
-- the cost of its plan. Assumes nothing.
use Prim.Native.Nat.{ℕ, ◌*◌, ◌<◌, ◌≤◌}
use mathlib.Core.Bool.{true, and-eq-true_iff}
use mathlib.Core.List.{List, Memᴰ}
use mathlib.Core.Path.{◌≡◌, refl}
use lib.ListN.{length}
use lib.Seq.{length-take-le}
use Rattle.base.specs.Metric.{Metric}
use Rattle.base.specs.Numbers.{◌then◌}
use Rattle.base.proofs.Numbers.{unless-zero, then_zero, first_of}
use Rattle.road.specs.Table.{Table, most_metres, metres_of, triangle_rule, legs_refusal, triangle_refusal}
use Rattle.road.proofs.Surveyed.{Surveyed, surveyed_metric}
use Rattle.dayfile.specs.Day.{most_cranes, most_calls, stops_rule, counts_refusal, stops_refusal, placed_refusal}
use Rattle.dayfile.proofs.Limits.{CountsTested, Placed, day_placed, placed_before, placed_accepted, stop_below}
use Rattle.workfunction.specs.Movement.{Instance, work}
use Rattle.workfunction.specs.Plan.{plan_rule, vouch_rule, plan_cost, stops, leg_cost}
use Rattle.workfunction.specs.Position.{Position}
use Rattle.workfunction.proofs.Sums.{slot_of}
use Rattle.workfunction.proofs.Witness.{witness_work}
use Rattle.book.specs.declared.Book.{Book}
use Rattle.book.specs.Book.{starts_of, stands_of, requests_of, driven_of, stops_of, follower, weight, range_rule, plan_refusal, weights_refusal, driven_rule, driven_refusal, BookArrays, book_day, book_refusal}

-- the counts are within the arrays
pub record Fits (book : Book) : Type 0 where
  pub starts : book.cranes ≤ length book.starts
  pub stands : book.cranes ≤ length book.stands
  pub requests : book.calls ≤ length book.requests
  pub driven : book.cranes ≤ length book.driven

pub fit : {book : Book} → BookArrays book → book.cranes ≤ most_cranes → book.calls ≤ most_calls → Fits book
fit arrays cranes calls = record {
  starts = rw arrays.starts cranes;
  stands = rw arrays.stands cranes;
  requests = rw arrays.requests calls;
  driven = rw arrays.driven cranes;
}

module _ {book : Book} (fits : Fits book) where
  pub starts-long : length (starts_of book) ≡ book.cranes
  starts-long = length-take-le book.cranes book.starts fits.starts

  pub stands_long : length (stands_of book) ≡ book.cranes
  stands_long = length-take-le book.cranes book.stands fits.stands

  pub requests_long : length (requests_of book) ≡ book.calls
  requests_long = length-take-le book.calls book.requests fits.requests

  pub driven-long : length (driven_of book) ≡ book.cranes
  driven-long = length-take-le book.cranes book.driven fits.driven

  pub stops-long : stops (starts_of book) (requests_of book) ≡ stops_of book
  stops-long = rw (starts-long, requests_long)

-- places that keep their rule
pub placed : (n : ℕ) (l : List ℕ) → stops_rule n l ≡ true → {r : ℕ} → Memᴰ r l → r < n
placed n l rule m = let at = slot_of m in rw (← at.2) (stop_below n l rule at.0 at.1)

-- "In memory: 3, 6, 7, 4, 5 (starts, calls, stands), 8, 9, 10", then 13, one by one
pub book_order : (book : Book) (n : ℕ) (t : Table) → book_refusal book n t
    ≡ (counts_refusal n (length t) book.cranes book.calls then legs_refusal t then stops_refusal n (starts_of book) then
    stops_refusal n (requests_of book) then stops_refusal n (stands_of book) then triangle_refusal n t then
    plan_refusal book.cranes (stops_of book) book.plan then
    weights_refusal book.cranes (stops_of book) book.plan book.weights
    (leg_cost (metres_of t) (starts_of book) (requests_of book) (stands_of book)) then driven_refusal book.calls (driven_of book))
unfolding book_refusal
book_order book n t = placed_before (book_day book n) t _

-- "A book is sound if none of 3 to 10 .. applies to it and its table", nor 13: by its rules
pub record Sound (book : Book) (n : ℕ) (t : Table) : Type 0 where
  pub counts : CountsTested n (length t) book.cranes book.calls
  pub surveyed : Surveyed n t
  pub starts : stops_rule n (starts_of book) ≡ true
  pub requests : stops_rule n (requests_of book) ≡ true
  pub stands : stops_rule n (stands_of book) ≡ true
  pub plan : plan_rule book.cranes (stops_of book) (follower book.plan) ≡ true
  pub range : range_rule (stops_of book) (weight book.weights) ≡ true
  pub vouched : vouch_rule book.cranes (stops_of book) (follower book.plan)
      (leg_cost (metres_of t) (starts_of book) (requests_of book) (stands_of book)) (weight book.weights) ≡ true
  pub driven : driven_rule (most_metres * book.calls) (driven_of book) ≡ true

module _ {book : Book} {n : ℕ} {t : Table} where
  pub book_sound : book_refusal book n t ≡ 0 → Sound book n t
  unfolding book_refusal
  book_sound h =
      let first = then_zero (placed_refusal (book_day book n) t) _ h in
      let day = day_placed (book_day book n) t first.0 in
      let stands = first_of (stops_rule n (stands_of book)) 4 _ first.1 in
      let triangles = first_of (triangle_rule n (metres_of t)) 7 _ stands.1 in
      let plan = first_of (plan_rule book.cranes (stops_of book) (follower book.plan)) 8 _ triangles.1 in
      let weights = first_of _ 9 _ plan.1 in
      let both = (and-eq-true_iff (range_rule (stops_of book) (weight book.weights)) _).0 weights.0 in
      record {
        counts = day.counts;
        surveyed = record { legs = day.legs; triangles = triangles.0 };
        starts = day.starts;
        requests = day.requests;
        stands = stands.0;
        plan = plan.0;
        range = both.0;
        vouched = both.1;
        driven = unless-zero _ 12 weights.1;
      }

  pub sound_metric : Sound book n t → Metric n (metres_of t)
  sound_metric s = surveyed_metric s.surveyed

  -- what it says of the book as a day
  sound_placed : Sound book n t → Placed (book_day book n) t
  sound_placed s = record { counts = s.counts; legs = s.surveyed.legs; starts = s.starts; requests = s.requests }

  pub sound_book : Sound book n t → book_refusal book n t ≡ 0
  unfolding book_refusal
  sound_book s =
      rw (placed_accepted (book_day book n) t (sound_placed s), s.stands, s.surveyed.triangles, s.plan) (rw (s.range, s.vouched, s.driven))

  module _ (arrays : BookArrays book) (s : Sound book n t) where
    pub sound_fits : Fits book
    sound_fits = fit arrays s.counts.cranes s.counts.calls

    pub sound_cranes : length (starts_of book) ≡ book.cranes
    sound_cranes = starts-long sound_fits

    pub sound_instance : Instance n (starts_of book) (requests_of book)
    sound_instance = record {
      crane = rw sound_cranes s.counts.crane;
      started = record { cranes = refl; placed = placed n (starts_of book) s.starts };
      called = placed n (requests_of book) s.requests;
    }

    pub sound_standing : Position n (length (starts_of book)) (stands_of book)
    sound_standing = record {
      cranes = rw sound_cranes (stands_long sound_fits);
      placed = placed n (stands_of book) s.stands;
    }

-- a sound book's plan costs w of its stands
pub sound_work : {book : Book} → BookArrays book → (n : ℕ) (t : Table) → book_refusal book n t ≡ 0
    → plan_cost (stops_of book) (leg_cost (metres_of t) (starts_of book) (requests_of book) (stands_of book)) (follower book.plan)
    ≡ work (metres_of t) n (starts_of book) (requests_of book) (stands_of book)
sound_work {book} arrays n t h =
    let s : Sound book n t = book_sound h in
    let fits = sound_fits arrays s in
    rw (← stops-long fits)
    (witness_work (sound_metric s) (sound_instance arrays s) (follower book.plan) (weight book.weights)
    (rw (starts-long fits, requests_long fits) s.plan)
    (sound_standing arrays s)
    (rw (starts-long fits, requests_long fits) s.vouched))
