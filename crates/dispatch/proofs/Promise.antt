-- The third promise: what the two costs of a sound book, the figures of a quote, the least of a commit and the figures of a served
-- day are the least of: of every movement and of every rearrangement, several cranes at a time included. And how a quote comes from the
-- net costs. Assumes nothing.
use Prim.Native.Nat.{ℕ, suc, ◌+◌, ◌*◌, ◌<◌, ◌≤◌}
use mathlib.Core.List.Memᴰ
use mathlib.Core.List.{List, [], ◌∷◌, ◌++◌}
use mathlib.Core.Path.{◌≡◌, refl, sym, ap, subst, ◌∙◌}
use lib.IntN.{ℤ, pos, ◌+ℤ◌}
use lib.ListN.{length, get_or, take}
use lib.Signed.{◌≤ℤ◌}
use native.Mathlib.Nat.{zero-add}
use native.Mathlib.Omega.{arith}
use Rattle.base.specs.Lists.{up_to}
use Rattle.base.proofs.Lists.{get_or-padded, take-padded, take-up_to}
use Rattle.road.specs.Table.{Table, most_metres, metres_of}
use Rattle.road.proofs.Surveyed.{surveyed_metric, surveyed_short}
use Rattle.dayfile.specs.declared.Day.{Day}
use Rattle.dayfile.specs.Day.{most_cranes, most_calls, day_starts, day_requests, DayArrays, placed_refusal, day_refusal}
use Rattle.dayfile.proofs.Limits.{day_placed, placed_accepted, tested_placed, Tested, day-tested, enough_starts, length-starts, length_requests}
use Rattle.workfunction.specs.Choice.{moved, drive, move_sum, net_cost, rearrangement_sum, Chosen}
use Rattle.workfunction.specs.Least.{IsLeast}
use Rattle.workfunction.specs.Movement.{Instance, Serves, LeastTo, work, floor}
use Rattle.workfunction.specs.Plan.{plan_cost, leg_cost, LeastOfPlans, plan_floor}
use Rattle.workfunction.specs.Position.{distance}
use Rattle.workfunction.specs.Serving.{Served, served_by, serve, stands_after}
use Rattle.workfunction.proofs.Choice.{choice_below, choice_least, chosen_only, choice_chosen, work_by_net}
use Rattle.workfunction.proofs.Least.{least_of_plans, plan_floor-work}
use Rattle.workfunction.proofs.Movement.{work_least, floor_least, floor_on, instance_first, instance_then, work_none, floor-none}
use Rattle.workfunction.proofs.Position.{distance_self}
use Rattle.workfunction.proofs.Serving.{serve_least, stands_placed, work-driven, net_cost_most, Bounded, serve_bounded}
use Rattle.book.specs.declared.Book.{Book}
use Rattle.book.specs.Book.{starts_of, stands_of, requests_of, stops_of, follower, BookArrays, book_refusal, fresh_book}
use Rattle.dispatch.specs.Commit.{commit_refusal, tidied, book_after, drive_of, least_after, commit_of, Next}
use Rattle.dispatch.specs.Costs.{costs_of}
use Rattle.dispatch.specs.NetCosts.{nets_of}
use Rattle.dispatch.specs.PlanFloor.{FloorTold, plan_floor_of}
use Rattle.dispatch.specs.Quote.{quote_refusal, unserved, figures_of, quote_of}
use Rattle.dispatch.specs.ServedDay.{nth, home_of, served_day}
use Rattle.dispatch.proofs.Added.{CallAdded, next_arrays, next_added}
use Rattle.dispatch.proofs.Roads.{placed_instance}
use Rattle.dispatch.proofs.Called.{Called, quote_called, called_quote, commit_called, called_commit}
use Rattle.book.proofs.FreshBook.{fresh_sound}
use Rattle.book.proofs.Sound.{stands_long, Sound, book_sound, sound_book, sound_fits, sound_metric, sound_instance, sound_standing, sound_work}

-- ---- a book

module _ {book : Book} (arrays : BookArrays book) (n : ℕ) (t : Table) (accepted : book_refusal book n t ≡ 0) where
  rules : Sound book n t
  rules = book_sound accepted

  least_is : (costs_of book n t).least ≡ work (metres_of t) n (starts_of book) (requests_of book) (stands_of book)
  unfolding costs_of
  least_is = rw accepted

  floor_is : (costs_of book n t).floor ≡ floor (metres_of t) n (starts_of book) (requests_of book)
  unfolding costs_of
  floor_is = rw accepted

  -- "the kept plan's cost is exactly the least reported"
  pub least_kept : plan_cost (stops_of book) (leg_cost (metres_of t) (starts_of book) (requests_of book) (stands_of book)) (follower book.plan) ≡ (costs_of book n t).least
  least_kept = sound_work arrays n t accepted ∙ sym least_is

  -- "some movement (starts, a crane at each call in turn, present stands) costs that, and every other, several cranes at a time
  -- included, costs at least as much"
  pub book_least : LeastTo (metres_of t) n (starts_of book) (requests_of book) (stands_of book) (costs_of book n t).least
  book_least = rw least_is (work_least (metres_of t) (sound_instance arrays rules) (stands_of book))

  -- "The floor likewise", paper 8: "among all movements that end at the starts"
  pub book_floor : LeastTo (metres_of t) n (starts_of book) (requests_of book) (starts_of book) (costs_of book n t).floor
  book_floor = rw floor_is (floor_least (metres_of t) (sound_instance arrays rules))

-- ---- a call quoted

module _ {book : Book} (arrays : BookArrays book) (n : ℕ) (t : Table) (r : ℕ) (accepted : quote_refusal book n t r ≡ 0) where
  called : Called book n t r
  called = quote_called accepted

  pub quote_is : quote_of book n t r ≡ record { number = 0; figures = figures_of book n t r }
  unfolding quote_of
  quote_is = rw accepted

  -- the crane quoted is one of the cranes
  pub quote_below : (quote_of book n t r).figures.crane < book.cranes
  unfolding served_by
  quote_below =
      let s = called.sound in
      let below = choice_below (sound_metric s) (sound_instance arrays s) (sound_standing arrays s) called.on in
      rw quote_is (rw (stands_long (sound_fits arrays s)) at below)

  -- "No rearrangement with a crane at the next call beats the single move chosen": its sum is the least that is quoted and the drive
  pub no_better_rearrangement : IsLeast (Serves n (length (starts_of book)) r)
      (rearrangement_sum (metres_of t) n (starts_of book) (requests_of book) (stands_of book) r)
      ((quote_of book n t r).figures.least + (quote_of book n t r).figures.metres)
  unfolding served_by move_sum
  no_better_rearrangement =
      let s = called.sound in
      rw quote_is (choice_least (sound_metric s) (sound_instance arrays s) (sound_standing arrays s) called.on)

  -- a commit of the crane quoted is accepted, and has the least that was quoted
  pub quote_committed : (plan : List ℕ) (weights : List ℤ) → let c = commit_of book n t r (quote_of book n t r).figures.crane plan weights in
      (c.number ≡ 0) × (c.least ≡ (quote_of book n t r).figures.least)
  unfolding commit_of served_by
  quote_committed plan weights = rw (called_commit called quote_below) (refl, rw quote_is)

  -- ---- the list of net costs

  -- the entry of a crane
  abbrev net : ℕ → ℤ
  net s = get_or (nets_of book n t r).nets s (pos 0)

  net_is : (s : ℕ) → s < book.cranes → net s ≡ net_cost (metres_of t) n (starts_of book) (requests_of book) (stands_of book) r s
  unfolding nets_of
  net_is s h = rw accepted (get_or-padded most_cranes book.cranes _ (pos 0) (pos 0) s h)

  -- no net cost is above the crane's drive
  pub net_within-drive : (s : ℕ) → s < book.cranes → net s ≤ℤ pos (drive (metres_of t) (stands_of book) r s)
  net_within-drive s h =
      let sound = called.sound in
      rw (net_is s h) (net_cost_most (sound_metric sound) (sound_instance arrays sound) (sound_standing arrays sound) called.on s
      (rw (stands_long (sound_fits arrays sound)) h))

  -- paper 4: the quote's "crane has the smallest net cost plus drive, ties as in a quote"
  pub quote_chosen : Chosen book.cranes net (drive (metres_of t) (stands_of book) r) (quote_of book n t r).figures.crane
  unfolding served_by
  quote_chosen =
      let long = stands_long (sound_fits arrays called.sound) in
      let some : 0 < length (stands_of book) = rw long called.sound.counts.crane in
      let sent = choice_chosen (metres_of t) n (starts_of book) (requests_of book) (stands_of book) r net some (λ s h. net_is s (rw long at h)) in
      rw quote_is (subst (λ (k : ℕ). Chosen k net (drive (metres_of t) (stands_of book) r) (figures_of book n t r).crane) long sent)

  -- and no other crane has
  pub quote_only : (s : ℕ) → Chosen book.cranes net (drive (metres_of t) (stands_of book) r) s → s ≡ (quote_of book n t r).figures.crane
  quote_only s chosen = chosen_only s _ chosen quote_chosen

  -- whichever crane is sent, the least then is the present one plus its net cost
  least_by_net : (s : ℕ) → s < book.cranes → pos (least_after book n t r s) ≡ pos (costs_of book n t).least +ℤ net s
  least_by_net s h =
      rw (least_is arrays n t (sound_book called.sound), net_is s h)
      (work_by_net (metres_of t) n (starts_of book) (requests_of book) (stands_of book) r s)

  -- the quote's "least is the present least plus that net cost"
  pub quote_least : pos (quote_of book n t r).figures.least ≡ pos (costs_of book n t).least +ℤ net (quote_of book n t r).figures.crane
  unfolding served_by
  quote_least = rw quote_is (least_by_net (figures_of book n t r).crane (rw quote_is at quote_below))

-- ---- a crane committed, the quoted one or another

module _ {book : Book} (arrays : BookArrays book) (n : ℕ) (t : Table) (r s : ℕ) (accepted : commit_refusal book n t r s ≡ 0) (plan : List ℕ)
    (weights : List ℤ) where
  -- the book after it
  abbrev next : Book
  next = (commit_of book n t r s plan weights).book

  commit_least_is : (commit_of book n t r s plan weights).least ≡ least_after book n t r s
  unfolding commit_of
  commit_least_is = rw accepted

  next_is : (commit_of book n t r s plan weights).book ≡ book_after (tidied book) s r (drive_of book t r s) plan weights
  unfolding commit_of
  next_is = rw accepted

  -- its cranes are the book's, with crane s at r, which is the last call, and its drive on its metres
  pub commit_added : CallAdded book s r (drive_of book t r s) next
  commit_added = let c = commit_called accepted in rw next_is (next_added arrays c.0 c.1 (drive_of book t r s) plan weights)

  pub commit_arrays : BookArrays next
  commit_arrays = let c = commit_called accepted in rw next_is (next_arrays arrays c.0 c.1 (drive_of book t r s) plan weights)

  -- paper 3: "The kept plan must then still be least for the stands so reached." Some movement that ends there costs the least that is told,
  -- and every other, several cranes at a time included, costs at least as much
  pub commit_least : LeastTo (metres_of t) n (starts_of book) (requests_of book ++ (r ∷ [])) (moved (stands_of book) r s)
      (commit_of book n t r s plan weights).least
  commit_least =
      let c = (commit_called accepted).0 in
      rw commit_least_is (work_least (metres_of t) (instance_then (sound_instance arrays c.sound) c.on) (moved (stands_of book) r s))

  -- it is the present least plus the crane's net cost
  pub commit_net : pos (commit_of book n t r s plan weights).least ≡ pos (costs_of book n t).least +ℤ get_or (nets_of book n t r).nets s (pos 0)
  commit_net =
      let c = commit_called accepted in
      rw commit_least_is (least_by_net arrays n t r (called_quote c.0) s c.1)

  module _ (sound : Next next n t) where
    -- the costs of the next book have that least
    pub commit_costs : (costs_of next n t).least ≡ (commit_of book n t r s plan weights).least
    unfolding costs_of
    commit_costs = rw (sound.sound, commit_added.starts, commit_added.requests, commit_added.stands) (sym commit_least_is)

    -- and the plan that it keeps costs exactly that
    pub commit_kept : plan_cost (stops_of next) (leg_cost (metres_of t) (starts_of next) (requests_of next) (stands_of next)) (follower next.plan)
        ≡ (commit_of book n t r s plan weights).least
    commit_kept = least_kept commit_arrays n t sound.sound ∙ commit_costs

-- ---- a served day

module _ (day : Day) (t : Table) (arrays : DayArrays day) (accepted : day_refusal day t ≡ 0) where
  tests : Tested day t
  tests = day-tested day t accepted

  day_instance : Instance day.places (day_starts day) (day_requests day)
  day_instance = placed_instance (tested_placed day t tests) arrays

  pub day_floor_is : (served_day day t).floor ≡ floor (metres_of t) day.places (day_starts day) (day_requests day)
  unfolding served_day
  day_floor_is = rw accepted

  -- the floor that is told is the least cost of all movements that serve the day's calls and end at the starts
  pub day-floor : LeastTo (metres_of t) day.places (day_starts day) (day_requests day) (day_starts day) (served_day day t).floor
  day-floor = rw day_floor_is (floor_least (metres_of t) day_instance)

  -- where the cranes stand once every call is served
  abbrev last : List ℕ
  last = stands_after (metres_of t) day.places (day_starts day) [] (day_starts day) (day_requests day)

  -- the way home that is told is their distance from the starts
  pub day_home : (served_day day t).home ≡ distance (metres_of t) last (day_starts day)
  unfolding served_day home_of
  day_home = rw accepted

  -- the cranes drive and go home on no less than the floor
  pub day-floor-driven : (served_day day t).floor ≤ (served_day day t).driven + (served_day day t).home
  unfolding served_day home_of
  day-floor-driven =
      let laws = surveyed_metric tests.surveyed in
      let long = length_requests day arrays tests.counts.calls in
      let none = work_none (metres_of t) day.places (day_starts day) (day_starts day) ∙ distance_self laws day_instance.started in
      let drives = work-driven laws unserved [] (day_starts day) (day_requests day) (instance_first 0 day_instance) day_instance.started
      (λ r m. day_instance.called m)
      in
      let stood = stands_placed (metres_of t) (day_starts day) [] (day_starts day) (day_requests day) day_instance.started (λ r m. day_instance.called m) in
      let back = floor_on (metres_of t) day_instance laws stood in
      let sum = rw (none, long) at drives in
      rw accepted (omega arith)

  -- the first calls, up to call i, and the stands once it is served
  module _ (i : ℕ) (called : i < day.calls) where
    abbrev first : List ℕ
    first = take (suc i) (day_requests day)

    abbrev stands : List ℕ
    stands = stands_after (metres_of t) day.places (day_starts day) [] (day_starts day) first

    -- the figures of all calls
    abbrev all : List Served
    all = serve (metres_of t) day.places (day_starts day) [] (day_starts day) (day_requests day)

    day_least_is : get_or (served_day day t).leasts i 0 ≡ work (metres_of t) day.places (day_starts day) first stands
    unfolding served_day
    day_least_is =
        let long = length_requests day arrays tests.counts.calls in
        rw accepted (get_or-padded most_calls day.calls _ 0 0 i called
        ∙ serve_least (metres_of t) day.places (day_starts day) unserved [] (day_starts day) (day_requests day) i (rw long called))

    -- the least that is told of call i is the least cost of all movements that serve them and end at those stands
    pub day_least : LeastTo (metres_of t) day.places (day_starts day) first stands (get_or (served_day day t).leasts i 0)
    day_least = rw day_least_is (work_least (metres_of t) (instance_first (suc i) day_instance) stands)

    -- its figures are within the limits: each call raises the least by no more than the longest leg there may be
    pub day_bounded : Bounded day.cranes most_metres ((i + 1) * most_metres)
        (record { crane = get_or (served_day day t).cranes i 0; metres = get_or (served_day day t).metres i 0; least = get_or (served_day day t).leasts i 0 })
    unfolding served_day
    day_bounded =
        let laws = surveyed_metric tests.surveyed in
        let long = length_requests day arrays tests.counts.calls in
        let none = work_none (metres_of t) day.places (day_starts day) (day_starts day) ∙ distance_self laws day_instance.started in
        let bounded = serve_bounded laws (surveyed_short tests.surveyed) unserved [] (day_starts day) (day_requests day) (instance_first 0 day_instance)
        day_instance.started (λ r m. day_instance.called m) i (rw long called)
        in
        rw (
          accepted,
          get_or-padded most_calls day.calls (λ j. (nth all j).crane) 0 0 i called,
          get_or-padded most_calls day.calls (λ j. (nth all j).metres) 0 0 i called,
          get_or-padded most_calls day.calls (λ j. (nth all j).least) 0 0 i called,
        )
        (rw (none, zero-add, length-starts day arrays tests.counts.cranes) at bounded)

  -- ---- its fresh book

  abbrev fresh : List ℕ
  fresh = up_to day.cranes (λ j. get_or day.starts j 0)

  at-starts : day_starts day ≡ fresh
  at-starts = take-up_to day.cranes day.starts 0 (enough_starts day arrays tests.counts.cranes)

  -- the day before its first call
  uncalled : Instance day.places fresh []
  uncalled = record {
    crane = rw (← at-starts) day_instance.crane;
    started = rw (← at-starts) day_instance.started;
    called = λ m. absurd (Memᴰ.not-nil m);
  }

  -- every crane is at its start, and no call has been served
  pub fresh_costs : costs_of (fresh_book day.cranes day.starts) day.places t ≡ record { number = 0; least = 0; floor = 0 }
  unfolding costs_of fresh_book
  fresh_costs =
      let laws = surveyed_metric tests.surveyed in
      let least = work_none (metres_of t) day.places fresh fresh ∙ distance_self laws uncalled.started in
      rw (fresh_sound day t arrays accepted, take-padded most_cranes day.cranes (λ j. get_or day.starts j 0) 0, least, floor-none laws uncalled)

-- ---- the least plan of a day

module _ (day : Day) (t : Table) where
  -- what is told where the day is accepted
  pub plan_floor_is : placed_refusal day t ≡ 0
      → plan_floor_of day t ≡ record { number = 0; floor = plan_floor (metres_of t) (day_starts day) (day_requests day) }
  unfolding plan_floor_of
  plan_floor_is accepted = rw accepted

  -- the least cost of all plans that serve the day's calls and end at the starts, whether the table keeps the triangle rule or not
  pub plan_floor_least : DayArrays day → placed_refusal day t ≡ 0
      → LeastOfPlans (metres_of t) (day_starts day) (day_requests day) (plan_floor_of day t).floor
  plan_floor_least arrays accepted =
      rw (plan_floor_is accepted) (least_of_plans (placed_instance (day_placed day t accepted) arrays) (metres_of t))

  -- where it does, the floor of the served day
  pub plan_floor-served : DayArrays day → day_refusal day t ≡ 0 → (plan_floor_of day t).floor ≡ (served_day day t).floor
  plan_floor-served arrays accepted =
      let tested = day-tested day t accepted in
      let placed = tested_placed day t tested in
      ap (λ (f : FloorTold). f.floor) (plan_floor_is (placed_accepted day t placed))
      ∙ plan_floor-work (placed_instance placed arrays) (surveyed_metric tested.surveyed)
      ∙ sym (day_floor_is day t arrays accepted)
