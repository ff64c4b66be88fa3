-- What the two costs of a book are, for every input.
use Rattle.std.specs.Prelude.{ℕ, Result, Ok, Err}
use Rattle.base.specs.declared.Refusal.{Refusal}
use Rattle.base.specs.Numbers.{refusal_number, unless_refused}
use Rattle.road.specs.Table.{Table, metres_of}
use Rattle.workfunction.specs.Movement.{work, floor}
use Rattle.book.specs.declared.Book.{Book}
use Rattle.book.specs.Book.{starts_of, stands_of, requests_of, book_refusal}
use Rattle.dispatch.specs.declared.Costs.{Costs}

-- the number, 0 where the book is sound; the two costs
pub record TwoCosts : Type 0 where
  pub number : ℕ
  pub least : ℕ
  pub floor : ℕ

abbrev pub two_costs : Result Costs Refusal → TwoCosts
two_costs (Ok c) = record { number = 0; least = c.least; floor = c.floor }
two_costs (Err r) = record { number = refusal_number r; least = 0; floor = 0 }

-- "The costs of a book: 'least' is w(stands)"; paper 8: "The floor becomes w(starts)"
unfoldable pub costs_of : Book → ℕ → Table → TwoCosts
costs_of book n t =
    unless_refused (book_refusal book n t)
    (record {
      number = 0;
      least = work (metres_of t) n (starts_of book) (requests_of book) (stands_of book);
      floor = floor (metres_of t) n (starts_of book) (requests_of book);
    })
    (λ m. record { number = m; least = 0; floor = 0 })
