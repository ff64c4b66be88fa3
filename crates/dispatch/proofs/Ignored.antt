-- "Entries past the counts .. are ignored on the way in": books that are the same and days that are the same give the same results.
-- Assumes nothing.
use Prim.Native.Nat.{ℕ}
use mathlib.Core.List.{List}
use mathlib.Core.Path.{◌≡◌, refl, sym, ◌∙◌}
use lib.IntN.{ℤ, pos}
use Rattle.base.proofs.Lists.{padded-same, kept_same}
use Rattle.base.proofs.Numbers.{told_alike}
use Rattle.road.specs.Table.{Table}
use Rattle.dayfile.specs.declared.Day.{Day}
use Rattle.dayfile.specs.Day.{most_cranes, most_calls, SameDay}
use Rattle.dayfile.proofs.Ignored.{same_placed, same-refusal}
use Rattle.book.specs.declared.Book.{Book}
use Rattle.book.specs.Book.{most_stops, stops_of, follower, weight, SameBook}
use Rattle.book.proofs.Ignored.{past_counts_ignored}
use Rattle.dispatch.specs.Commit.{commit_refusal, tidied, drive_of, least_after, Committed, commit_of}
use Rattle.dispatch.specs.Costs.{costs_of}
use Rattle.dispatch.specs.NetCosts.{nets_of}
use Rattle.dispatch.specs.PlanFloor.{plan_floor_of}
use Rattle.dispatch.specs.Quote.{quote_refusal, quote_of}
use Rattle.dispatch.specs.ServedDay.{home_of, served_day}

-- ---- a book

module _ (a b : Book) (n : ℕ) (t : Table) (books : SameBook a b) where
  -- the two costs
  pub same-costs-told : costs_of a n t ≡ costs_of b n t
  unfolding costs_of
  same-costs-told = rw (past_counts_ignored a b n t books, books.starts, books.requests, books.stands)

  -- the book with 0 past its counts
  pub same-tidied : tidied a ≡ tidied b
  unfolding tidied
  same-tidied =
      let stops : stops_of a ≡ stops_of b = rw (books.cranes, books.calls) in
      λ i. record {
        cranes = books.cranes i;
        calls = books.calls i;
        starts = kept_same most_cranes a.starts b.starts 0 books.cranes books.starts i;
        stands = kept_same most_cranes a.stands b.stands 0 books.cranes books.stands i;
        requests = kept_same most_calls a.requests b.requests 0 books.calls books.requests i;
        plan = padded-same most_stops (follower a.plan) (follower b.plan) 0 stops books.plan i;
        weights = padded-same most_stops (weight a.weights) (weight b.weights) (pos 0) stops books.weights i;
        driven = kept_same most_cranes a.driven b.driven 0 books.cranes books.driven i;
      }

  module _ (r : ℕ) where
    -- the number of a quote
    same_quote_number : quote_refusal a n t r ≡ quote_refusal b n t r
    same_quote_number = rw (past_counts_ignored a b n t books, books.calls)

    -- the quote
    pub same_quote_told : quote_of a n t r ≡ quote_of b n t r
    unfolding quote_of
    same_quote_told = rw (same_quote_number, books.starts, books.requests, books.stands)

    -- the net costs
    pub same-nets-told : nets_of a n t r ≡ nets_of b n t r
    unfolding nets_of
    same-nets-told = rw (same_quote_number, books.starts, books.requests, books.stands, books.cranes)

    module _ (crane : ℕ) where
      -- the number of a commit
      same_commit_number : commit_refusal a n t r crane ≡ commit_refusal b n t r crane
      same_commit_number = rw (past_counts_ignored a b n t books, books.calls, books.cranes)

      -- its least
      same-least_after : least_after a n t r crane ≡ least_after b n t r crane
      same-least_after = rw (books.starts, books.requests, books.stands)

      -- its drive
      same-drive : drive_of a t r crane ≡ drive_of b t r crane
      same-drive = rw books.stands

      -- what is told of it, committed or refused
      pub same_commit_told : (plan plan' : List ℕ) (weights weights' : List ℤ)
          → ((commit_of a n t r crane plan weights).number ≡ (commit_of b n t r crane plan' weights').number)
          × ((commit_of a n t r crane plan weights).least ≡ (commit_of b n t r crane plan' weights').least)
      unfolding commit_of
      same_commit_told plan plan' weights weights' =
          told_alike (λ (x y : Committed). (x.number ≡ y.number) × (x.least ≡ y.least)) _ _ same_commit_number
          (λ h. (refl, same-least_after)) (λ k. (refl, refl))

      -- all that it gives; the book of a refused commit is the caller's, as it was given
      pub same_commit : commit_refusal a n t r crane ≡ 0 → (plan : List ℕ) (weights : List ℤ)
          → commit_of a n t r crane plan weights ≡ commit_of b n t r crane plan weights
      unfolding commit_of
      same_commit h plan weights = rw (h, sym same_commit_number ∙ h, same-least_after, same-drive, same-tidied)

-- ---- a day

module _ (a b : Day) (t : Table) (days : SameDay a b) where
  -- the served day
  pub same-day-served : served_day a t ≡ served_day b t
  unfolding served_day home_of
  same-day-served = rw (same-refusal a b t days, days.starts, days.requests, days.places, days.calls)

  -- the least plan
  pub same-plan_floor : plan_floor_of a t ≡ plan_floor_of b t
  unfolding plan_floor_of
  same-plan_floor = rw (same_placed a b t days, days.starts, days.requests)
