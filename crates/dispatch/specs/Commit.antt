-- What a commit gives, for every input: the book with a crane at a call, and its least.
use Rattle.std.specs.Prelude.{ℕ, ◌+◌, ◌≤◌, List, [], ◌∷◌, ◌++◌, ◌≡◌, ltb, ℤ, pos, get_or, set, Result, Ok, Err}
use Rattle.base.specs.Lists.{padded}
use Rattle.base.specs.declared.Refusal.{Refusal}
use Rattle.base.specs.Numbers.{refusal_number, unless, ◌then◌, unless_refused}
use Rattle.road.specs.Table.{Table, metres_of}
use Rattle.dayfile.specs.Day.{most_cranes, most_calls}
use Rattle.workfunction.specs.Choice.{moved, drive}
use Rattle.workfunction.specs.Movement.{work}
use Rattle.book.specs.declared.Book.{Book}
use Rattle.book.specs.Book.{most_stops, starts_of, stands_of, requests_of, stops_of, follower, weight, book_refusal}
use Rattle.dispatch.specs.declared.Commit.{Commit}
use Rattle.dispatch.specs.Quote.{asked_place_refusal, full_refusal}

-- Paper 3: "12 when a committed crane's number isn't below the number of cranes"
abbrev pub asked_crane_refusal : ℕ → ℕ → ℕ
asked_crane_refusal k s = unless (ltb s k) 12

-- the tests of a book, then 12 "after the asked place and before the full book"
abbrev pub commit_refusal : Book → ℕ → Table → ℕ → ℕ → ℕ
commit_refusal book n t r s =
    book_refusal book n t then asked_place_refusal n r then asked_crane_refusal book.cranes s then full_refusal book.calls

-- "Entries past the counts .. are 0 in a returned .. book."
unfoldable pub tidied : Book → Book
tidied book =
    record {
      cranes = book.cranes;
      calls = book.calls;
      starts = padded most_cranes book.cranes (λ j. get_or book.starts j 0) 0;
      stands = padded most_cranes book.cranes (λ j. get_or book.stands j 0) 0;
      requests = padded most_calls book.calls (λ i. get_or book.requests i 0) 0;
      plan = padded most_stops (stops_of book) (follower book.plan) 0;
      weights = padded most_stops (stops_of book) (weight book.weights) (pos 0);
      driven = padded most_cranes book.cranes (λ j. get_or book.driven j 0) 0;
    }

-- "Its stand becomes r, r is appended"; paper 5: "a commit adds its drive to the crane committed". The book after crane s drives so
-- many metres to a call at r, with some plan and some weights
unfoldable pub book_after : Book → ℕ → ℕ → ℕ → List ℕ → List ℤ → Book
book_after book s r metres plan weights =
    record {
      cranes = book.cranes;
      calls = book.calls + 1;
      starts = book.starts;
      stands = moved book.stands r s;
      requests = set book.requests book.calls r;
      plan = plan;
      weights = weights;
      driven = set book.driven s (get_or book.driven s 0 + metres);
    }

-- its drive, from the stand before the move
abbrev pub drive_of : Book → Table → ℕ → ℕ → ℕ
drive_of book t r s = drive (metres_of t) (stands_of book) r s

-- the least then: w with r as the last call, at the stands with crane s at r
abbrev pub least_after : Book → ℕ → Table → ℕ → ℕ → ℕ
least_after book n t r s = work (metres_of t) n (starts_of book) (requests_of book ++ (r ∷ [])) (moved (stands_of book) r s)

-- the number, 0 where the crane is sent; the least; the book
pub record Committed : Type 0 where
  pub number : ℕ
  pub least : ℕ
  pub book : Book

-- of a commit of a book: a refused one leaves the book as it was given
abbrev pub committed : Book → Result Commit Refusal → Committed
committed book (Ok c) = record { number = 0; least = c.least; book = c.book }
committed book (Err r) = record { number = refusal_number r; least = 0; book = book }

-- what a commit gives: paper 3, "a commit takes the place and a crane and returns the new book with its least". "Open are the plan
-- and weights of the book after a served call": they are taken as they come. "A refused call returns the number, .. other results
-- 0, and the caller's book exactly as given, entries past its counts included"
unfoldable pub commit_of : Book → ℕ → Table → ℕ → ℕ → List ℕ → List ℤ → Committed
commit_of book n t r s plan weights =
    unless_refused (commit_refusal book n t r s)
    (record { number = 0; least = least_after book n t r s; book = book_after (tidied book) s r (drive_of book t r s) plan weights })
    (λ m. record { number = m; least = 0; book = book })

-- "of them it holds that the book is sound", and that "entries past the counts .. are 0"
pub record Next (book : Book) (n : ℕ) (t : Table) : Type 0 where
  pub sound : book_refusal book n t ≡ 0
  pub plan : (p : ℕ) → stops_of book ≤ p → follower book.plan p ≡ 0
  pub weights : (b : ℕ) → stops_of book ≤ b → weight book.weights b ≡ pos 0
