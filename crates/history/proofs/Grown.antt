-- What a grown book tells of its history: its starts, calls and stands, and the metres of each crane, which together make the day's
-- drive. Assumes nothing.
use Prim.Native.Nat.{ℕ, ◌+◌, ◌<◌}
use mathlib.Core.Bool.{cond}
use mathlib.Core.List.{List, [], ◌∷◌, ◌++◌, map, map-append}
use mathlib.Core.Path.{◌≡◌, refl, sym, ap, ◌∙◌}
use borrow.Author.Tests.{eq-eqb, ne_eqb}
use lib.Dec.{eqb}
use lib.IntN.{ℤ}
use lib.ListN.{length, get_or, set, replicate, length-append}
use lib.Seq.{get_or-take, get_or-set_same, get_or-set_other}
use native.Mathlib.Decide.{ℕ_discrete}
use native.Mathlib.Nat.{add-zero}
use Rattle.base.proofs.Lists.{replicate-at}
use Rattle.base.proofs.Numbers.{accepted_values}
use Rattle.road.specs.Table.{Table}
use Rattle.dayfile.specs.declared.Day.{Day}
use Rattle.dayfile.specs.Day.{most_cranes, day_starts, DayArrays, day_refusal}
use Rattle.workfunction.specs.Choice.{moved}
use Rattle.workfunction.specs.Lists.{filter, sum_below}
use Rattle.workfunction.proofs.Sums.{sum_same, sum_plus, sum_one, sum-zero}
use Rattle.book.specs.declared.Book.{Book}
use Rattle.book.specs.Book.{starts_of, stands_of, requests_of, driven_of, BookArrays, Opened, fresh_book, empty_book, fresh_of}
use Rattle.book.proofs.Sound.{driven-long, sound_fits}
use Rattle.dispatch.specs.Commit.{commit_refusal, drive_of, Committed, commit_of}
use Rattle.dispatch.proofs.Added.{CallAdded}
use Rattle.dispatch.proofs.Called.{Called, commit_called}
use Rattle.dispatch.proofs.DayServed.{fresh_day, at-starts, at_stands, no_calls}
use Rattle.dispatch.proofs.Promise.{commit_added, commit_arrays}
use Rattle.history.specs.History.{Drive, drive_to, sum_of, driven_by, stands_by, Grown, opened, committed}
use Rattle.history.proofs.History.{sum_of_then, stands_by_then, driven_by_then}

-- what a book grown from the fresh one of a day tells of its history
pub record Told (day : Day) (book : Book) (h : List Drive) : Type 0 where
  pub lengths : BookArrays book
  pub cranes : book.cranes ≡ day.cranes
  pub calls : book.calls ≡ length h
  pub starts : starts_of book ≡ day_starts day
  pub stands : stands_of book ≡ stands_by (day_starts day) h
  pub requests : requests_of book ≡ map (λ x. x.place) h
  pub driven : (j : ℕ) → j < book.cranes → get_or (driven_of book) j 0 ≡ driven_by j h

module _ (day : Day) (t : Table) (arrays : DayArrays day) where
  -- the fresh book is that of an accepted day
  pub fresh_accepted : (fresh_of day t).number ≡ 0 → day_refusal day t ≡ 0
  unfolding fresh_of
  fresh_accepted accepted =
      accepted_values (day_refusal day t) (record { number = 0; book = fresh_book day.cranes day.starts })
      (λ n. record { number = n; book = empty_book }) (λ (o : Opened). o.number) (λ n. refl) accepted

  -- and tells of no drive
  pub fresh_told : (book : Book) → (fresh_of day t).number ≡ 0 → book ≡ (fresh_of day t).book → Told day book []
  unfolding fresh_of fresh_book stands_by filter sum_of
  fresh_told book accepted e =
      let fresh = fresh_day {t = t} arrays (fresh_accepted accepted) in
      let is : book ≡ fresh_book day.cranes day.starts = e ∙ rw (fresh_accepted accepted) in
      rw is
      (record {
        lengths = fresh.arrays;
        cranes = refl;
        calls = refl;
        starts = at-starts fresh;
        stands = at_stands fresh ∙ at-starts fresh;
        requests = no_calls fresh;
        driven = λ j h. rw (get_or-take {A = ℕ} day.cranes (replicate most_cranes 0) j 0 h) (replicate-at {A = ℕ} most_cranes j 0);
      })

  -- a commit that is accepted adds its drive
  module _ {book : Book} {h : List Drive} (so : Told day book h) (r s : ℕ) (plan : List ℕ) (weights : List ℤ)
      (accepted : (commit_of book day.places t r s plan weights).number ≡ 0) where
    commit_accepted : commit_refusal book day.places t r s ≡ 0
    unfolding commit_of
    commit_accepted =
        accepted_values (commit_refusal book day.places t r s) _ (λ m. record { number = m; least = 0; book = book })
        (λ (o : Committed). o.number) (λ m. refl) accepted

    pub called : Called book day.places t r
    called = (commit_called commit_accepted).0

    sent_below : s < book.cranes
    sent_below = (commit_called commit_accepted).1

    pub added : CallAdded book s r (drive_of book t r s) (commit_of book day.places t r s plan weights).book
    added = commit_added so.lengths day.places t r s commit_accepted plan weights

    more_driven : (j : ℕ) → j < book.cranes
        → get_or (set (driven_of book) s (get_or (driven_of book) s 0 + drive_of book t r s)) j 0 ≡ driven_by j (h ++ (drive_to book t r s ∷ []))
    more_driven j lt = rw (driven_by_then (drive_to book t r s) j h) (pick (ℕ_discrete s j))
      where
        pick : Dec (s ≡ j) → get_or (set (driven_of book) s (get_or (driven_of book) s 0 + drive_of book t r s)) j 0
            ≡ driven_by j h + cond (eqb s j) (drive_of book t r s) 0
        pick (yes e) =
            rw (← e, eq-eqb s s refl)
            (get_or-set_same (driven_of book) s _ 0 (rw (driven-long (sound_fits so.lengths called.sound)) sent_below) ∙ rw (so.driven s sent_below))
        pick (no away) = rw (ne_eqb s j away, add-zero) (get_or-set_other (driven_of book) s j _ 0 (λ e. away (sym e)) ∙ so.driven j lt)

    then_told : Told day (commit_of book day.places t r s plan weights).book (h ++ (drive_to book t r s ∷ []))
    then_told = record {
      lengths = commit_arrays so.lengths day.places t r s commit_accepted plan weights;
      cranes = added.cranes ∙ so.cranes;
      calls = added.calls ∙ rw (so.calls, length-append h (drive_to book t r s ∷ []));
      starts = added.starts ∙ so.starts;
      stands = added.stands ∙ ap (λ (l : List ℕ). moved l r s) so.stands ∙ sym (stands_by_then (drive_to book t r s) (day_starts day) h);
      requests = added.requests ∙ rw so.requests (sym (map-append (λ (x : Drive). x.place) h (drive_to book t r s ∷ [])));
      driven = λ j lt. rw added.driven (more_driven j (rw added.cranes at lt));
    }

  pub grown_told : {book : Book} {h : List Drive} → Grown day t book h → Told day book h
  grown_told (opened {book} accepted e) = fresh_told book accepted e
  grown_told (committed grown r s plan weights accepted e) = rw e (then_told (grown_told grown) r s plan weights accepted)

  module _ {book : Book} {h : List Drive} (grown : Grown day t book h) where
    told : Told day book h
    told = grown_told grown

    -- the number of calls is the history's length
    pub grown_calls : book.calls ≡ length h
    grown_calls = told.calls

    -- the starts are the day's, and the calls and the stands those of the history
    pub grown_starts : starts_of book ≡ day_starts day
    grown_starts = told.starts

    pub grown_requests : requests_of book ≡ map (λ x. x.place) h
    grown_requests = told.requests

    pub grown_stands : stands_of book ≡ stands_by (day_starts day) h
    grown_stands = told.stands

    -- "each figure is the sum of that crane's drives in the history"
    pub grown_driven : (j : ℕ) → j < book.cranes → get_or book.driven j 0 ≡ driven_by j h
    grown_driven j lt = sym (get_or-take book.cranes book.driven j 0 lt) ∙ told.driven j lt

  -- each drive is that of a crane of the book, so the sums by crane leave none out
  all_driven : {book : Book} {h : List Drive} → Grown day t book h → sum_below day.cranes (λ j. driven_by j h) ≡ sum_of h
  unfolding filter sum_of
  all_driven (opened accepted e) = sum-zero day.cranes
  all_driven (committed {book} {h = h} grown r s plan weights accepted e) =
      let so = grown_told grown in
      let sent : s < day.cranes = rw so.cranes at (sent_below so r s plan weights accepted) in
      sum_same day.cranes _ _ (λ j lt. driven_by_then (drive_to book t r s) j h)
      ∙ sum_plus day.cranes (λ j. driven_by j h) (λ j. cond (eqb s j) (drive_of book t r s) 0)
      ∙ rw (all_driven grown, sum_one day.cranes s (λ j. drive_of book t r s) sent, sum_of_then (drive_to book t r s) h)

  -- "and together they make the day's drive"
  pub grown_day : {book : Book} {h : List Drive} → Grown day t book h → sum_below book.cranes (λ j. get_or book.driven j 0) ≡ sum_of h
  grown_day {book} {h} grown =
      sum_same book.cranes _ (λ j. driven_by j h) (grown_driven grown)
      ∙ rw (grown_told grown).cranes (all_driven grown)
