-- The book of document 01: the first refusal that applies to it, and the fresh book.
use Rattle.std.specs.Prelude.{ℕ, ◌+◌, ◌*◌, ◌<◌, Bool, ◌&&◌, List, ◌≡◌, leb, ℤ, pos, negsuc, length, get_or, take, replicate, Result, Ok, Err}
use Rattle.std.specs.Int.Signed.{le_z}
use Rattle.base.specs.declared.Refusal.{Refusal}
use Rattle.base.specs.Lists.{padded}
use Rattle.base.specs.Numbers.{unless, ◌then◌, unless_refused, refusal_number}
use Rattle.base.specs.Tests.{all_below}
use Rattle.road.specs.Table.{Table, most_metres, metres_of, triangle_refusal}
use Rattle.dayfile.specs.Day.{most_cranes, most_calls, stops_refusal, placed_refusal, day_refusal}
use Rattle.dayfile.specs.declared.Day.{Day}
use Rattle.workfunction.specs.Plan.{plan_rule, vouch_rule, leg_cost}
use Rattle.book.specs.declared.Book.{Book}

-- the most stops of a book, and the most followers
abbrev pub most_stops : ℕ
most_stops = most_cranes + most_calls

-- "Entries past the counts .. are ignored on the way in"
abbrev pub starts_of : Book → List ℕ
starts_of book = take book.cranes book.starts

abbrev pub stands_of : Book → List ℕ
stands_of book = take book.cranes book.stands

abbrev pub requests_of : Book → List ℕ
requests_of book = take book.calls book.requests

-- paper 5: "The book carries the metres driven of every crane"
abbrev pub driven_of : Book → List ℕ
driven_of book = take book.cranes book.driven

-- "The stops are the starts and the calls."
abbrev pub stops_of : Book → ℕ
stops_of book = book.cranes + book.calls

-- "Each stop has one follower."
abbrev pub follower : List ℕ → ℕ → ℕ
follower plan p = get_or plan p 0

-- "Each call and each stand b has a weight y(b)": a dual variable.
abbrev pub weight : List ℤ → ℕ → ℤ
weight weights b = get_or weights b (pos 0)

-- "A weight is a signed whole number from −2^40 to 2^40."
unfoldable pub weight_rule : ℤ → Bool
weight_rule y = le_z (negsuc 1099511627775) y && le_z y (pos 1099511627776)

-- every weight is within its range
abbrev pub range_rule : ℕ → (ℕ → ℤ) → Bool
range_rule n y = all_below n (λ b. weight_rule (y b))

-- "the plan breaks a rule above"
abbrev pub plan_refusal : ℕ → ℕ → List ℕ → ℕ
plan_refusal k n plan = unless (plan_rule k n (follower plan)) 9

-- "a weight out of range, or the weights don't vouch", c p b being the cost of the leg from p to b
abbrev pub weights_refusal : ℕ → ℕ → List ℕ → List ℤ → (ℕ → ℕ → ℕ) → ℕ
weights_refusal k n plan weights c = unless (range_rule n (weight weights) && vouch_rule k n (follower plan) c (weight weights)) 10

-- no crane's metres exceed the most
abbrev pub driven_rule : ℕ → List ℕ → Bool
driven_rule most driven = all_below (length driven) (λ j. leb (get_or driven j 0) most)

-- paper 5: "13 when a crane's metres exceed 1,000,000 times the number of calls"
abbrev pub driven_refusal : ℕ → List ℕ → ℕ
driven_refusal m driven = unless (driven_rule (most_metres * m) driven) 13

-- the lengths that a book's arrays by crane and by call have by their types: a definition sees an array as a list
pub record BookArrays (book : Book) : Type 0 where
  pub starts : length book.starts ≡ most_cranes
  pub stands : length book.stands ≡ most_cranes
  pub requests : length book.requests ≡ most_calls
  pub driven : length book.driven ≡ most_cranes

-- "Entries past the counts, the road table's included, are ignored on the way in": two books are the same if their counts
-- and the entries within them are.
pub record SameBook (a b : Book) : Type 0 where
  pub cranes : a.cranes ≡ b.cranes
  pub calls : a.calls ≡ b.calls
  pub starts : starts_of a ≡ starts_of b
  pub stands : stands_of a ≡ stands_of b
  pub requests : requests_of a ≡ requests_of b
  pub plan : (p : ℕ) → p < stops_of b → follower a.plan p ≡ follower b.plan p
  pub weights : (p : ℕ) → p < stops_of b → weight a.weights p ≡ weight b.weights p
  pub driven : driven_of a ≡ driven_of b

-- the day of a book, beside n places
abbrev pub book_day : Book → ℕ → Day
book_day book n = record { places = n; cranes = book.cranes; calls = book.calls; starts = book.starts; requests = book.requests }

-- "In memory: 3, 6, 7, 4, 5 (starts, calls, stands), 8, 9, 10"; paper 5: 13 "after the weights; such a book isn't sound". "A book
-- is sound if none of 3 to 10 .. applies to it and its table", nor 13: where this is 0.
unfoldable pub book_refusal : Book → ℕ → Table → ℕ
book_refusal book n t =
    placed_refusal (book_day book n) t then stops_refusal n (stands_of book) then triangle_refusal n t then
    plan_refusal book.cranes (stops_of book) book.plan then
    weights_refusal book.cranes (stops_of book) book.plan book.weights
    (leg_cost (metres_of t) (starts_of book) (requests_of book) (stands_of book)) then driven_refusal book.calls (driven_of book)

-- "A fresh book has no calls, stands equal to starts, start j followed by stand j, and weights 0; it is sound." Paper 5: the
-- metres are "0 in a fresh book". "Entries past the counts .. are 0 in a returned .. book". Of the number of cranes and the starts of
-- a day.
unfoldable pub fresh_book : ℕ → List ℕ → Book
fresh_book k starts =
    record {
      cranes = k;
      calls = 0;
      starts = padded most_cranes k (λ j. get_or starts j 0) 0;
      stands = padded most_cranes k (λ j. get_or starts j 0) 0;
      requests = replicate most_calls 0;
      plan = padded most_stops k (λ j. j) 0;
      weights = replicate most_stops (pos 0);
      driven = replicate most_cranes 0;
    }

-- "other results 0"
abbrev pub empty_book : Book
empty_book =
    record {
      cranes = 0;
      calls = 0;
      starts = replicate most_cranes 0;
      stands = replicate most_cranes 0;
      requests = replicate most_calls 0;
      plan = replicate most_stops 0;
      weights = replicate most_stops (pos 0);
      driven = replicate most_cranes 0;
    }

-- the number, 0 where the book is opened; the book
pub record Opened : Type 0 where
  pub number : ℕ
  pub book : Book

abbrev pub opening : Result Book Refusal → Opened
opening (Ok book) = record { number = 0; book = book }
opening (Err r) = record { number = refusal_number r; book = empty_book }

-- "Opening a fresh book and writing a day run the same tests on what they are given"
unfoldable pub fresh_of : Day → Table → Opened
fresh_of day t =
    unless_refused (day_refusal day t) (record { number = 0; book = fresh_book day.cranes day.starts })
    (λ n. record { number = n; book = empty_book })
