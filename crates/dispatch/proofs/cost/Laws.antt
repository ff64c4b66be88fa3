-- The plan and the weights of a sound book, copied into the room of a plan at work: it is a day under way whose ends may be moved, and what
-- its two costs are. Assumes nothing.
use Prim.Native.Nat.{ℕ, ◌<◌, ◌≤◌}
use mathlib.Core.List.{List}
use mathlib.Core.Path.{◌≡◌, sym, ap, ◌∙◌}
use lib.IntN.{ℤ, pos}
use lib.ListN.{length}
use native.Mathlib.Omega.{arith}
use Rattle.base.specs.Lists.{padded}
use Rattle.base.proofs.Lists.{length-padded, get_or-padded}
use Rattle.road.specs.Table.{Table, most_places, metres_of, entry}
use Rattle.workfunction.specs.Movement.{work, floor}
use Rattle.workfunction.specs.Plan.{plan_cost, stops, leg_cost, least_plan}
use Rattle.workfunction.proofs.Plan.{plan_facts}
use Rattle.book.specs.declared.Book.{Book}
use Rattle.book.specs.Book.{most_stops, starts_of, stands_of, requests_of, stops_of, follower, weight, BookArrays}
use Rattle.book.proofs.Sound.{Sound, stops-long, sound_fits}
use Rattle.dispatch.specs.Costs.{TwoCosts}
use Rattle.dispatch.specs.Insertion.{Movable}
use Rattle.dispatch.specs.Legs.{plan_room, leg_at, LegTable}
use Rattle.dispatch.proofs.Carried.{sound_kept}
use Rattle.dispatch.proofs.Roads.{sound_roads}
use Rattle.dispatch.proofs.ends.Laws.{kept_copied, kept_movable, movable_least, ends_work, ends_floor}

module _ {book : Book} {n : ℕ} {t : Table} (arrays : BookArrays book) (s : Sound book n t) (plan_long : most_stops ≤ length book.plan)
    (weights_long : most_stops ≤ length book.weights) {plan : List ℕ} {weights : List ℤ} {costs : List ℕ}
    (followers : plan ≡ padded plan_room (stops_of book) (follower book.plan) 0)
    (weighed : weights ≡ padded plan_room (stops_of book) (weight book.weights) (pos 0))
    (table : LegTable most_places (entry (metres_of t)) (starts_of book) (requests_of book) (stands_of book) costs) where
  few : stops_of book ≤ most_stops
  few = let k = s.counts in omega arith

  same-follower : (p : ℕ) → p < stops_of book → follower book.plan p ≡ follower plan p
  same-follower p h = rw followers (sym (get_or-padded plan_room (stops_of book) (follower book.plan) 0 0 p h))

  same-weight : (b : ℕ) → b < stops_of book → weight book.weights b ≡ weight weights b
  same-weight b h = rw weighed (sym (get_or-padded plan_room (stops_of book) (weight book.weights) (pos 0) (pos 0) b h))

  plan_room_lem : length plan ≡ plan_room
  plan_room_lem = let most = few in rw followers (length-padded plan_room (stops_of book) (follower book.plan) 0 (omega arith))

  weights_room : length weights ≡ plan_room
  weights_room = let most = few in rw weighed (length-padded plan_room (stops_of book) (weight book.weights) (pos 0) (omega arith))

  pub book_movable : Movable n (entry (metres_of t)) (starts_of book) (requests_of book) (stands_of book) plan weights costs
  book_movable =
      let long = stops-long (sound_fits arrays s) in
      let one = plan_room_lem in
      let other = weights_room in
      kept_movable (sound_roads s).legible
      (kept_copied (sound_kept arrays s plan_long weights_long table) plan weights (λ p h. same-follower p (rw long at h))
      (λ b h. same-weight b (rw long at h)) (omega arith) (omega arith))
      (omega arith) (omega arith)

  pub copied_long : stops_of book ≤ length plan
  copied_long = let most = few in let one = plan_room_lem in omega arith

  pub copied_below : (p : ℕ) → p < stops_of book → follower plan p < stops_of book
  copied_below p h = rw (← same-follower p h) ((plan_facts book.cranes (stops_of book) (follower book.plan) s.plan).below p h)

  pub book_costs : {least low : ℕ} → least ≡ plan_cost (stops_of book) (leg_at costs) (follower plan)
      → low ≡ least_plan (length (starts_of book)) (stops (starts_of book) (requests_of book))
      (leg_cost (entry (metres_of t)) (starts_of book) (requests_of book) (starts_of book))
      → ◌≡◌ {A = TwoCosts} (record { number = 0; least = least; floor = low })
      (record {
        number = 0;
        least = work (metres_of t) n (starts_of book) (requests_of book) (stands_of book);
        floor = floor (metres_of t) n (starts_of book) (requests_of book);
      })
  book_costs kept lowest =
      let kept-day = book_movable.kept in
      let day = kept-day.asked.day in
      let roads = sound_roads s in
      let long = ap (λ (m : ℕ). plan_cost m (leg_at costs) (follower plan)) (sym (stops-long (sound_fits arrays s))) in
      let least = kept ∙ long ∙ movable_least book_movable ∙ ends_work roads day kept-day.standing in
      let low = lowest ∙ ends_floor roads day in
      λ i. record { number = 0; least = least i; floor = low i }
