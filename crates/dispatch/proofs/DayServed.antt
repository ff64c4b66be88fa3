-- A day served call by call: what holds after each call, what the calls give together, and the fresh book with which it begins.
-- Assumes nothing.
use Prim.Native.Nat.{ℕ, ◌+◌, ◌<◌, ◌≤◌, zero-le}
use mathlib.Core.List.{List, [], ◌∷◌, ◌++◌}
use mathlib.Core.Path.{◌≡◌, refl, sym, ap, ◌∙◌}
use lib.IntN.{ℤ, pos}
use lib.ListN.{length, get_or, set, take, drop, replicate, length-append, length-replicate}
use lib.Seq.{take_all, take_at, drop-cons, take-suc, drop-drop, get_or-drop}
use native.Mathlib.Nat.{add-zero, le_antisymm}
use native.Mathlib.Numerals.{add-one}
use native.Mathlib.Omega.{arith}
use Rattle.std.specs.Prelude.{None}
use Rattle.base.proofs.Lists.{length-padded, take_kept, drop-replicate, Filled, fill_begun, fill_turned, fill_ended}
use Rattle.road.specs.Table.{Table, most_places, metres_of, entry}
use Rattle.road.proofs.Surveyed.{surveyed_metric}
use Rattle.dayfile.specs.declared.Day.{Day}
use Rattle.dayfile.specs.Day.{most_cranes, most_calls, day_starts, day_requests, DayArrays, day_refusal}
use Rattle.dayfile.proofs.Limits.{Tested, day-tested, stop_below, enough_starts, enough_requests, length_requests}
use Rattle.workfunction.specs.Choice.{moved, choice}
use Rattle.workfunction.specs.Lists.{sum_below}
use Rattle.workfunction.specs.Plan.{stops, leg_cost, least_plan}
use Rattle.workfunction.specs.Position.{Position}
use Rattle.workfunction.specs.Serving.{Served, served_by, served, serve, stands_after}
use Rattle.workfunction.proofs.Movement.{work_none}
use Rattle.workfunction.proofs.Serving.{stands_then_lem}
use Rattle.workfunction.proofs.Sums.{sum_last}
use Rattle.book.specs.declared.Book.{Book}
use Rattle.book.specs.Book.{most_stops, starts_of, stands_of, requests_of, BookArrays, fresh_book}
use Rattle.dispatch.specs.Insertion.{Asked, Kept, Answered, EndsGiven, HomeGiven, DayDone}
use Rattle.dispatch.specs.Legs.{plan_room, Costed, LegTable}
use Rattle.dispatch.specs.Quote.{unserved}
use Rattle.dispatch.specs.ServedDay.{nth, DayFigures, home_of, served_day}
use Rattle.dispatch.proofs.Carried.{sound_table}
use Rattle.book.proofs.FreshBook.{fresh_sound}
use Rattle.book.proofs.Sound.{Fits, starts-long, placed, Sound, book_sound, sound_fits}
use Rattle.dispatch.proofs.Roads.{sound_roads, sound_asked}
use Rattle.dispatch.proofs.ends.Laws.{Own, own_kept, stood_day, read_legible, kept_movable, ends_work, ends_floor}

-- ---- call by call

module _ (n : ℕ) (d : ℕ → ℕ → ℕ) (starts requests stands₀ cranes₀ metres₀ leasts₀ : List ℕ) where
  -- the figures of all calls
  abbrev pub whole : List Served
  whole = serve d n starts [] stands₀ requests

  -- i calls are served: the day is under way, what is left of it is what is still to come, and the figures so far are noted
  pub record Running (stands plan : List ℕ) (weights : List ℤ) (costs cranes metres leasts : List ℕ) (driven i : ℕ) : Type 0 where
    pub kept : Kept n d starts (take i requests) stands plan weights costs
    pub ahead : drop i whole ≡ serve d n starts (take i requests) stands (drop i requests)
    pub stood : stands ≡ stands_after d n starts [] stands₀ (take i requests)
    pub sent : Filled (λ j. (nth whole j).crane) cranes₀ (length requests) cranes i
    pub drives : Filled (λ j. (nth whole j).metres) metres₀ (length requests) metres i
    pub works : Filled (λ j. (nth whole j).least) leasts₀ (length requests) leasts i
    pub sum : driven ≡ sum_below i (λ j. (nth whole j).metres)

  pub run_begun : {plan : List ℕ} {weights : List ℤ} {costs : List ℕ} → Kept n d starts [] stands₀ plan weights costs
      → Running stands₀ plan weights costs cranes₀ metres₀ leasts₀ 0 0
  unfolding sum_below stands_after
  run_begun k = record {
    kept = k;
    ahead = refl;
    stood = refl;
    sent = fill_begun _ _ _;
    drives = fill_begun _ _ _;
    works = fill_begun _ _ _;
    sum = refl;
  }

  module _ {stands plan : List ℕ} {weights : List ℤ} {costs cranes metres leasts : List ℕ} {driven i : ℕ}
      (run : Running stands plan weights costs cranes metres leasts driven i) where
    module _ (lt : i < length requests) where
      abbrev r : ℕ
      r = get_or requests i 0

      abbrev calls : List ℕ
      calls = take i requests

      -- the next call, and those after it
      left : drop i whole ≡ served d n starts calls stands r
          ∷ serve d n starts (calls ++ (r ∷ [])) (moved stands r (choice d n starts calls stands r)) (drop (i + 1) requests)
      unfolding serve
      left = run.ahead ∙ rw (drop-cons requests i 0 lt, add-one i)

      next : nth whole i ≡ served d n starts calls stands r
      next = rw (add-zero i) at (sym (get_or-drop i whole 0 unserved)) ∙ ap (λ (l : List Served). nth l 0) left

      pub run_turned : length requests ≤ length cranes₀ → length requests ≤ length metres₀ → length requests ≤ length leasts₀
          → {told : Served} {stands' plan' : List ℕ} {weights' : List ℤ} {costs' : List ℕ}
          → Answered n d starts calls stands r None told stands' plan' weights' costs'
          → Running stands' plan' weights' costs' (set cranes i told.crane) (set metres i told.metres) (set leasts i told.least)
          (driven + told.metres) (i + 1)
      run_turned long long' long'' {told} answer =
          let same : told ≡ nth whole i = answer.figures ∙ ap (λ (s : ℕ). served_by d n starts s calls stands r) answer.chosen ∙ sym next in
          let on : take (i + 1) requests ≡ calls ++ (r ∷ []) = rw (add-one i) (take-suc requests i 0 lt) in
          record {
            kept = rw on answer.kept;
            ahead = sym (drop-drop 1 i whole) ∙ ap (λ (l : List Served). drop 1 l) left ∙ rw (on, answer.there, answer.chosen);
            stood = answer.there ∙ rw (answer.chosen, on, run.stood) (sym (stands_then_lem d n starts [] stands₀ calls r));
            sent = fill_turned _ _ _ _ _ _ long run.sent lt (ap (λ (s : Served). s.crane) same);
            drives = fill_turned _ _ _ _ _ _ long' run.drives lt (ap (λ (s : Served). s.metres) same);
            works = fill_turned _ _ _ _ _ _ long'' run.works lt (ap (λ (s : Served). s.least) same);
            sum = rw (run.sum, ap (λ (s : Served). s.metres) same) (sym (sum_last i _));
          }

    pub run_ended : length requests ≤ i
        → DayDone n d starts requests stands₀ cranes₀ metres₀ leasts₀ stands plan weights costs cranes metres leasts driven
    run_ended le =
        let all : take i requests ≡ requests = take_all i requests le in
        record {
          figures = record {
            sent = fill_ended _ _ _ _ _ run.sent le;
            drives = fill_ended _ _ _ _ _ run.drives le;
            costs = fill_ended _ _ _ _ _ run.works le;
            sum = rw (le_antisymm le run.sent.most) run.sum;
          };
          stood = rw all at run.stood;
          kept = rw all at run.kept;
        }

-- ---- a day that is accepted, with its fresh book

-- no refusal applies to the day, the book is its fresh one, and the arrays have the lengths of their types
pub record FreshDay (day : Day) (t : Table) (book : Book) : Type 0 where
  pub none : day_refusal day t ≡ 0
  pub lengths : DayArrays day
  pub fresh : book ≡ fresh_book day.cranes day.starts
  pub arrays : BookArrays book
  pub plan : length book.plan ≡ most_stops
  pub weights : length book.weights ≡ most_stops

-- the fresh book of an accepted day is one
pub fresh_day : {day : Day} {t : Table} → DayArrays day → day_refusal day t ≡ 0 → FreshDay day t (fresh_book day.cranes day.starts)
unfolding fresh_book
fresh_day {day} {t} lengths none =
    let k = (day-tested day t none).counts in
    let most = length-padded most_cranes day.cranes (λ j. get_or day.starts j 0) 0 k.cranes in
    record {
      none = none;
      lengths = lengths;
      fresh = refl;
      arrays = record { starts = most; stands = most; requests = length-replicate {A = ℕ} most_calls 0; driven = length-replicate {A = ℕ} most_cranes 0 };
      plan = length-padded most_stops day.cranes (λ j. j) 0 (omega arith);
      weights = length-replicate most_stops (pos 0);
    }

module _ {day : Day} {t : Table} {book : Book} (given : FreshDay day t book) where
  tests : Tested day t
  tests = day-tested day t given.none

  pub day_sound : Sound book day.places t
  day_sound = book_sound (rw given.fresh (fresh_sound day t given.lengths given.none))

  pub day_fits : Fits book
  day_fits = sound_fits given.arrays day_sound

  pub calls_fit : day.calls ≤ length day.requests
  calls_fit = enough_requests day given.lengths tests.counts.calls

  pub calls-long : length (day_requests day) ≡ day.calls
  calls-long = length_requests day given.lengths tests.counts.calls

  pub day_called : (i : ℕ) → i < length (day_requests day) → get_or (day_requests day) i 0 < day.places
  day_called = stop_below day.places (day_requests day) tests.requests

  pub day_asked : Asked day.places (starts_of book) (day_requests day)
  day_asked =
      let s = sound_asked given.arrays day_sound in
      record {
        day = record { crane = s.day.crane; started = s.day.started; called = placed day.places (day_requests day) tests.requests };
        cranes = s.cranes;
        few = rw calls-long tests.counts.calls;
      }

  pub no_calls : requests_of book ≡ []
  unfolding fresh_book
  no_calls = rw given.fresh

  -- each crane stands at its start
  pub at-starts : starts_of book ≡ day_starts day
  unfolding fresh_book
  at-starts = rw given.fresh (take_kept most_cranes day.cranes day.starts 0 (enough_starts day given.lengths tests.counts.cranes))

  pub at_stands : stands_of book ≡ starts_of book
  unfolding fresh_book
  at_stands = rw given.fresh

  -- with the plan and the weights of a book without calls
  pub day_kept : {plan : List ℕ} {weights : List ℤ} {costs : List ℕ}
      → LegTable most_places (entry (metres_of t)) (starts_of book) (requests_of book) (stands_of book) costs
      → Own book.cranes plan weights
      → Kept day.places (metres_of t) (starts_of book) [] (stands_of book) plan weights costs
  day_kept {plan} {weights} {costs} table own =
      let asked = rw no_calls at (sound_asked given.arrays day_sound) in
      let legs = rw (no_calls, at_stands) at (sound_table given.arrays day_sound table) in
      rw at_stands (own_kept (λ u h. (surveyed_metric tests.surveyed).self u h) asked legs (rw (← starts-long day_fits) at own))

  module _ {stands plan : List ℕ} {weights : List ℤ} {costs sent metres leasts : List ℕ} {driven : ℕ}
      (done : DayDone day.places (metres_of t) (starts_of book) (day_requests day) (stands_of book) (replicate most_calls 0) (replicate most_calls 0)
      (replicate most_calls 0) stands plan weights costs sent metres leasts driven) where
    -- the last stands, as they are lent out of their array
    pub last_long : length stands ≡ book.cranes
    last_long = done.kept.standing.cranes ∙ starts-long day_fits

    pub last_within : (rest : List ℕ) → book.cranes ≤ length (stands ++ rest)
    last_within rest = rw (length-append stands rest) (omega (arith, last_long))

    pub last_lent : (rest : List ℕ) → take book.cranes (stands ++ rest) ≡ stands
    last_lent rest = take_at stands rest book.cranes last_long

    -- the way home may be asked for, and the ends of the plan may be moved to the starts
    pub home_given : {table : List ℕ} → Costed table → HomeGiven (entry (metres_of t)) stands (starts_of book) table
    home_given costed = record {
      places = day.places;
      legible = read_legible (sound_roads day_sound).legible;
      asked = record {
        day = stood_day day_asked done.kept.standing;
        cranes = rw done.kept.standing.cranes day_asked.cranes;
        few = zero-le;
      };
      ending = rw done.kept.standing.cranes day_asked.day.started;
      costed = costed;
    }

    pub floor_given : plan_room ≤ length plan → plan_room ≤ length weights
        → EndsGiven (entry (metres_of t)) (starts_of book) (day_requests day) (starts_of book) plan weights costs
    floor_given plan_long weights_long = record {
      places = day.places;
      stands = stands;
      movable = kept_movable (sound_roads day_sound).legible done.kept plan_long weights_long;
      ending = day_asked.day.started;
    }

    -- what the calls give together, with the way home and the floor
    pub day_figures_lem : {way low : ℕ} (lent : List ℕ) → lent ≡ stands
        → way ≡ least_plan (length lent) (stops lent []) (leg_cost (entry (metres_of t)) lent [] (starts_of book))
        → low ≡ least_plan (length (starts_of book)) (stops (starts_of book) (day_requests day))
        (leg_cost (entry (metres_of t)) (starts_of book) (day_requests day) (starts_of book))
        → ◌≡◌ {A = DayFigures}
        (record { number = 0; calls = day.calls; cranes = sent; metres = metres; leasts = leasts; driven = driven; home = way; floor = low })
        (served_day day t)
    unfolding served_day home_of
    day_figures_lem lent same far low =
        let told = done.figures in
        let roads = sound_roads day_sound in
        let back : Position day.places (length stands) (starts_of book) = rw done.kept.standing.cranes day_asked.day.started in
        let home = rw same at far ∙ ends_work roads (stood_day day_asked done.kept.standing) back ∙ work_none (metres_of t) day.places stands (starts_of book) in
        let least = low ∙ ends_floor roads day_asked.day in
        rw (given.none, told.sent, told.drives, told.costs, told.sum, home, least, done.stood, at_stands, at-starts, calls-long) (simp drop-replicate)
