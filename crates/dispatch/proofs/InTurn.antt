-- A day of which each call is quoted and the crane quoted is committed: no quote and no commit is refused, and its figures are those of the
-- served day. Assumes nothing.
use Prim.Native.Nat.{ℕ, zero, suc, ◌+◌, ◌<◌, ◌≤◌}
use mathlib.Core.List.{List, [], ◌∷◌, ◌++◌}
use mathlib.Core.Path.{◌≡◌, refl, sym, ap, subst, ◌∙◌}
use lib.ListN.{length, get_or, take}
use lib.Seq.{take_all, take-suc, get_or-take}
use native.Mathlib.Nat.{le_refl}
use native.Mathlib.Numerals.{add-one}
use native.Mathlib.Omega.{arith}
use Rattle.base.specs.Lists.{up_to}
use Rattle.base.proofs.Lists.{take-up_to, up_to-same}
use Rattle.road.specs.Table.{Table, metres_of}
use Rattle.dayfile.specs.declared.Day.{Day}
use Rattle.dayfile.specs.Day.{day_starts, day_requests, DayArrays, day_refusal}
use Rattle.dayfile.proofs.Limits.{Tested, day-tested, stop_below, length_requests}
use Rattle.workfunction.specs.Choice.{choice}
use Rattle.workfunction.specs.Movement.{floor}
use Rattle.workfunction.specs.Position.{distance}
use Rattle.workfunction.specs.Serving.{Served, served_by, served, serve, stands_after}
use Rattle.workfunction.proofs.Serving.{serve-at, serve-long, stands_then_lem}
use Rattle.book.specs.declared.Book.{Book}
use Rattle.book.specs.Book.{starts_of, stands_of, requests_of, BookArrays, book_refusal, fresh_book, fresh_of}
use Rattle.book.proofs.FreshBook.{fresh_sound}
use Rattle.book.proofs.Sound.{book_sound}
use Rattle.dispatch.specs.Commit.{drive_of}
use Rattle.dispatch.specs.Costs.{costs_of}
use Rattle.dispatch.specs.InTurn.{call_at, quote_at, commit_at, InTurn}
use Rattle.dispatch.specs.Quote.{Quoted, unserved}
use Rattle.dispatch.specs.ServedDay.{all_figures, home_of, served_day}
use Rattle.dispatch.proofs.Added.{CallAdded}
use Rattle.dispatch.proofs.Called.{Called, called_quote, called_commit}
use Rattle.dispatch.proofs.DayServed.{fresh_day, at-starts, at_stands, no_calls}
use Rattle.dispatch.proofs.Promise.{quote_is, quote_below, quote_committed, commit_added, commit_arrays}

module _ (day : Day) (t : Table) (books : ℕ → Book) (arrays : DayArrays day) (accepted : day_refusal day t ≡ 0) (turns : InTurn day t books) where
  tests : Tested day t
  tests = day-tested day t accepted

  calls-long : length (day_requests day) ≡ day.calls
  calls-long = length_requests day arrays tests.counts.calls

  -- the calls up to call i, and the stands once they are served
  abbrev first : ℕ → List ℕ
  first i = take i (day_requests day)

  abbrev there : ℕ → List ℕ
  there i = stands_after (metres_of t) day.places (day_starts day) [] (day_starts day) (first i)

  -- the book once i cranes are committed
  record Turned (i : ℕ) (book : Book) : Type 0 where
    lengths : BookArrays book
    sound : book_refusal book day.places t ≡ 0
    calls : book.calls ≡ i
    starts : starts_of book ≡ day_starts day
    stands : stands_of book ≡ there i
    requests : requests_of book ≡ first i

  begun : Turned 0 (books 0)
  unfolding fresh_of fresh_book stands_after
  begun =
      let fresh = fresh_day {t = t} arrays accepted in
      let e : books 0 ≡ fresh_book day.cranes day.starts = turns.opened ∙ rw accepted in
      rw e
      (record {
        lengths = fresh.arrays;
        sound = fresh_sound day t arrays accepted;
        calls = refl;
        starts = at-starts fresh;
        stands = at_stands fresh ∙ at-starts fresh;
        requests = no_calls fresh;
      })

  module _ (i : ℕ) (so : Turned i (books i)) (h : i < day.calls) where
    abbrev r : ℕ
    r = call_at day i

    call_is : get_or (day_requests day) i 0 ≡ r
    call_is = get_or-take day.calls day.requests i 0 h

    called : Called (books i) day.places t r
    called = record {
      sound = book_sound so.sound;
      on = rw call_is at (stop_below day.places (day_requests day) tests.requests i (rw calls-long h));
      space = rw so.calls (omega (arith, tests.counts));
    }

    -- the quote of call i
    quoted : quote_at day t books i ≡ record { number = 0; figures = served (metres_of t) day.places (day_starts day) (first i) (there i) r }
    quoted = quote_is so.lengths day.places t r (called_quote called) ∙ rw (so.starts, so.requests, so.stands)

    abbrev crane : ℕ
    crane = (quote_at day t books i).figures.crane

    crane_is : crane ≡ choice (metres_of t) day.places (day_starts day) (first i) (there i) r
    unfolding served_by
    crane_is = ap (λ (q : Quoted). q.figures.crane) quoted

    sent : crane < (books i).cranes
    sent = quote_below so.lengths day.places t r (called_quote called)

    -- the commit of its crane
    committed : ((commit_at day t books i).number ≡ 0) × ((commit_at day t books i).least ≡ (quote_at day t books i).figures.least)
    committed = quote_committed so.lengths day.places t r (called_quote called) (books (i + 1)).plan (books (i + 1)).weights

    added : CallAdded (books i) crane r (drive_of (books i) t r crane) (books (i + 1))
    added =
        subst (λ (b : Book). CallAdded (books i) crane r (drive_of (books i) t r crane) b) (sym (turns.handed i h))
        (commit_added so.lengths day.places t r crane (called_commit called sent) (books (i + 1)).plan (books (i + 1)).weights)

    turned : Turned (i + 1) (books (i + 1))
    turned =
        let more : first (i + 1) ≡ first i ++ (r ∷ []) = rw (add-one i, ← call_is) (take-suc (day_requests day) i 0 (rw calls-long h)) in
        record {
          lengths =
              subst BookArrays (sym (turns.handed i h))
              (commit_arrays so.lengths day.places t r crane (called_commit called sent) (books (i + 1)).plan (books (i + 1)).weights);
          sound = (turns.next i h committed.0).sound;
          calls = added.calls ∙ rw so.calls;
          starts = added.starts ∙ so.starts;
          stands = added.stands ∙ rw (so.stands, crane_is, more) (sym (stands_then_lem (metres_of t) day.places (day_starts day) [] (day_starts day) (first i) r));
          requests = added.requests ∙ rw (so.requests, more);
        }

  -- call by call
  all_turned : (i : ℕ) → i ≤ day.calls → Turned i (books i)
  all_turned zero h = begun
  all_turned (suc i) h = rw (add-one i) at (turned i (all_turned i (omega arith)) (omega arith))

  -- no quote and no commit is refused, and each commit has the least that was quoted
  pub in_turn_accepted : (i : ℕ) → i < day.calls → ((quote_at day t books i).number ≡ 0) × ((commit_at day t books i).number ≡ 0)
      × ((commit_at day t books i).least ≡ (quote_at day t books i).figures.least)
  in_turn_accepted i h =
      let so = all_turned i (omega arith) in
      let c = committed i so h in
      (ap (λ (q : Quoted). q.number) (quoted i so h), c.0, c.1)

  -- all figures of the calls
  abbrev all : List Served
  all = serve (metres_of t) day.places (day_starts day) [] (day_starts day) (day_requests day)

  all_quoted : all ≡ up_to day.calls (λ i. (quote_at day t books i).figures)
  all_quoted =
      let long : length all ≡ day.calls = serve-long (metres_of t) day.places (day_starts day) [] (day_starts day) (day_requests day) ∙ calls-long in
      sym (take_all day.calls all (omega arith)) ∙ take-up_to day.calls all unserved (omega arith)
      ∙ up_to-same day.calls _ _ (λ i h.
      serve-at (metres_of t) day.places (day_starts day) unserved [] (day_starts day) (day_requests day) i (rw calls-long h)
      ∙ rw (call_is i (all_turned i (omega arith)) h) (sym (ap (λ (q : Quoted). q.figures) (quoted i (all_turned i (omega arith)) h))))

  -- the floor of the book after the last call
  floor_is : (costs_of (books day.calls) day.places t).floor ≡ floor (metres_of t) day.places (day_starts day) (day_requests day)
  unfolding costs_of
  floor_is =
      let last = all_turned day.calls (le_refl day.calls) in
      rw (last.sound, last.starts, last.requests) (rw (take_all day.calls (day_requests day) (omega (arith, calls-long))))

  -- the way home is that of the book after the last call
  home_is : home_of day t ≡ distance (metres_of t) (stands_of (books day.calls)) (starts_of (books day.calls))
  unfolding home_of
  home_is =
      let last = all_turned day.calls (le_refl day.calls) in
      rw (last.stands, last.starts) (rw (take_all day.calls (day_requests day) (omega (arith, calls-long))))

  -- the served day is the fresh book and, for each call, a quote followed by the commit of its crane
  pub day_in_turn : served_day day t
      ≡ all_figures day.calls (up_to day.calls (λ i. (quote_at day t books i).figures))
      (distance (metres_of t) (stands_of (books day.calls)) (starts_of (books day.calls))) (costs_of (books day.calls) day.places t).floor
  unfolding served_day
  day_in_turn = rw (accepted, floor_is, home_is, ← all_quoted)
