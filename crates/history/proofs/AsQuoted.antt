-- Where every crane committed is the quoted one, and the calls are the day's, the day's drive is that of the served day.
-- Assumes nothing.
use Prim.Native.Nat.{ℕ, ◌+◌}
use mathlib.Core.List.{List, [], ◌∷◌, ◌++◌, map}
use mathlib.Core.Path.{◌≡◌, sym, ap, ap₂, ◌∙◌}
use lib.IntN.{ℤ}
use lib.ListN.{length, length-append, get_or-append}
use lib.Seq.{get_or-append-add}
use native.Mathlib.Nat.{add-zero}
use Rattle.road.specs.Table.{Table, metres_of}
use Rattle.dayfile.specs.declared.Day.{Day}
use Rattle.dayfile.specs.Day.{day_starts, day_requests, DayArrays, day_refusal}
use Rattle.dayfile.proofs.Limits.{day-tested, length_requests}
use Rattle.workfunction.specs.Choice.{choice}
use Rattle.workfunction.specs.Lists.{sum_below}
use Rattle.workfunction.specs.Serving.{Served, served_by, served, serve, stands_after}
use Rattle.workfunction.proofs.Serving.{serve_then, stands_then_lem, serve-long}
use Rattle.workfunction.proofs.Sums.{sum_same, sum_last}
use Rattle.book.specs.declared.Book.{Book}
use Rattle.book.specs.Book.{stands_of, requests_of}
use Rattle.dispatch.specs.Commit.{drive_of, commit_of}
use Rattle.dispatch.specs.Quote.{Quoted, quote_of, unserved}
use Rattle.dispatch.specs.ServedDay.{nth, served_day}
use Rattle.dispatch.proofs.Called.{called_quote}
use Rattle.dispatch.proofs.Promise.{quote_is}
use Rattle.history.specs.History.{Drive, drive_to, sum_of, stands_by, Grown, opened, committed, AsQuoted}
use Rattle.history.proofs.History.{sum_of_then}
use Rattle.history.proofs.Grown.{Told, fresh_accepted, fresh_told, called, added, grown_told, grown_requests}

-- the metres of served calls together
abbrev metres_of_all : List Served → ℕ
metres_of_all all = sum_below (length all) (λ i. (nth all i).metres)

metres_of_all_then : (all : List Served) (x : Served) → metres_of_all (all ++ (x ∷ [])) ≡ metres_of_all all + x.metres
metres_of_all_then all x =
    let last : nth (all ++ (x ∷ [])) (length all) ≡ x =
    ap (λ (i : ℕ). nth (all ++ (x ∷ [])) i) (sym (add-zero (length all))) ∙ get_or-append-add all (x ∷ []) 0 unserved
    in
    let before : sum_below (length all) (λ i. (nth (all ++ (x ∷ [])) i).metres) ≡ metres_of_all all =
    sum_same (length all) _ _ (λ i lt. ap (λ (s : Served). s.metres) (get_or-append all (x ∷ []) unserved i lt))
    in
    rw (length-append all (x ∷ []), sum_last (length all) (λ i. (nth (all ++ (x ∷ [])) i).metres), before, last)

module _ (day : Day) (t : Table) (arrays : DayArrays day) where
  -- the stands and the figures once these calls are served from the fresh book
  abbrev stands_then : List ℕ → List ℕ
  stands_then = stands_after (metres_of t) day.places (day_starts day) [] (day_starts day)

  abbrev all_served : List ℕ → List Served
  all_served = serve (metres_of t) day.places (day_starts day) [] (day_starts day)

  -- the book's stands and the history's drives are theirs
  record AsServed (book : Book) (h : List Drive) : Type 0 where
    accepted : day_refusal day t ≡ 0
    stands : stands_of book ≡ stands_then (requests_of book)
    drives : sum_of h ≡ metres_of_all (all_served (requests_of book))

  fresh_served : {book : Book} → day_refusal day t ≡ 0 → Told day book [] → AsServed book []
  unfolding serve stands_after stands_by sum_of sum_below
  fresh_served none told = record { accepted = none; stands = rw told.requests told.stands; drives = rw told.requests }

  module _ {book : Book} {h : List Drive} (so : Told day book h) (was : AsServed book h) (r s : ℕ) (plan : List ℕ) (weights : List ℤ)
      (accepted : (commit_of book day.places t r s plan weights).number ≡ 0) (quoted : s ≡ (quote_of book day.places t r).figures.crane) where
    abbrev calls : List ℕ
    calls = requests_of book

    -- the figures of the call
    abbrev here : Served
    here = served (metres_of t) day.places (day_starts day) calls (stands_then calls) r

    crane_here : s ≡ choice (metres_of t) day.places (day_starts day) calls (stands_then calls) r
    unfolding served_by
    crane_here =
        quoted ∙ ap (λ (q : Quoted). q.figures.crane) (quote_is so.lengths day.places t r (called_quote (called day t arrays so r s plan weights accepted)))
        ∙ rw (so.starts, was.stands)

    drive_here : drive_of book t r s ≡ here.metres
    unfolding served_by
    drive_here = rw (was.stands, crane_here)

    then_served : AsServed (commit_of book day.places t r s plan weights).book (h ++ (drive_to book t r s ∷ []))
    then_served =
        let add = added day t arrays so r s plan weights accepted in
        record {
          accepted = was.accepted;
          stands =
              add.stands
              ∙ rw (add.requests, was.stands, crane_here) (sym (stands_then_lem (metres_of t) day.places (day_starts day) [] (day_starts day) calls r));
          drives =
              sum_of_then (drive_to book t r s) h ∙ ap₂ ◌+◌ was.drives drive_here
              ∙ sym (metres_of_all_then (all_served calls) here)
              ∙ rw add.requests (ap metres_of_all (sym (serve_then (metres_of t) day.places (day_starts day) [] (day_starts day) calls r)));
        }

  as_served : {book : Book} {h : List Drive} (grown : Grown day t book h) → AsQuoted day t grown → AsServed book h
  unfolding AsQuoted
  as_served (opened {book} accepted e) quoted = fresh_served (fresh_accepted day t arrays accepted) (fresh_told day t arrays book accepted e)
  as_served (committed grown r s plan weights accepted e) quoted =
      rw e (then_served (grown_told day t arrays grown) (as_served grown quoted.0) r s plan weights accepted quoted.1)

  -- where the calls are the day's, and every crane committed is the quoted one, the day's drive is that of the served day
  pub grown_served : {book : Book} {h : List Drive} (grown : Grown day t book h) → AsQuoted day t grown
      → map (λ x. x.place) h ≡ day_requests day → sum_of h ≡ (served_day day t).driven
  unfolding served_day
  grown_served {book} {h} grown quoted calls =
      let so = as_served grown quoted in
      let long : length (all_served (day_requests day)) ≡ day.calls =
      serve-long (metres_of t) day.places (day_starts day) [] (day_starts day) (day_requests day)
      ∙ length_requests day arrays (day-tested day t so.accepted).counts.calls
      in
      so.drives ∙ rw (grown_requests day t arrays grown, calls, so.accepted) (rw long)
