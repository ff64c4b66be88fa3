-- What a quote gives, for every input: of a call the crane, its metres and the least, and no book.
use Rattle.std.specs.Prelude.{ℕ, ltb, Result, Ok, Err}
use Rattle.base.specs.declared.Refusal.{Refusal}
use Rattle.base.specs.Numbers.{refusal_number, unless, ◌then◌, unless_refused}
use Rattle.road.specs.Table.{Table, metres_of}
use Rattle.dayfile.specs.Day.{most_calls}
use Rattle.workfunction.specs.Serving.{Served, served}
use Rattle.book.specs.declared.Book.{Book}
use Rattle.book.specs.Book.{starts_of, stands_of, requests_of, book_refusal}
use Rattle.dispatch.specs.declared.Quote.{Quote}

-- "then the asked place 5"
abbrev pub asked_place_refusal : ℕ → ℕ → ℕ
asked_place_refusal n r = unless (ltb r n) 5

-- "a full book 7"
abbrev pub full_refusal : ℕ → ℕ
full_refusal m = unless (ltb m most_calls) 7

-- the tests of a book, then those; paper 3: "a full book refuses a quote too"
abbrev pub quote_refusal : Book → ℕ → Table → ℕ → ℕ
quote_refusal book n t r = book_refusal book n t then asked_place_refusal n r then full_refusal book.calls

-- the number, 0 where the call is quoted; the figures
pub record Quoted : Type 0 where
  pub number : ℕ
  pub figures : Served

-- "other results 0"
abbrev pub unserved : Served
unserved = record { crane = 0; metres = 0; least = 0 }

abbrev pub quoted : Result Quote Refusal → Quoted
quoted (Ok q) = record { number = 0; figures = record { crane = q.crane; metres = q.metres; least = q.least } }
quoted (Err r) = record { number = refusal_number r; figures = unserved }

-- the figures of a call at r: "The crane chosen has the least w(C(s)) + d(s,r)", over the work function of the book; paper 3:
-- "The choice promised by the work function is the quote's"
abbrev pub figures_of : Book → ℕ → Table → ℕ → Served
figures_of book n t r = served (metres_of t) n (starts_of book) (requests_of book) (stands_of book) r

-- what a quote gives: paper 3, "a quote names crane, metres and least without a new book"
unfoldable pub quote_of : Book → ℕ → Table → ℕ → Quoted
quote_of book n t r =
    unless_refused (quote_refusal book n t r) (record { number = 0; figures = figures_of book n t r }) (λ m. record { number = m; figures = unserved })
