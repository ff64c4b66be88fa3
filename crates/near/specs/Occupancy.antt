-- Which places hold a crane, for every input: paper 9's second question, "stated over the stands of a sound book".
use Rattle.std.specs.Prelude.{ℕ, Bool, not, Result, Ok, Err}
use Rattle.base.specs.declared.Refusal.{Refusal}
use Rattle.base.specs.Numbers.{refusal_number, unless_refused}
use Rattle.road.specs.Table.{Table}
use Rattle.workfunction.specs.Movement.{contains}
use Rattle.book.specs.declared.Book.{Book}
use Rattle.book.specs.Book.{stands_of, book_refusal}
use Rattle.near.specs.declared.Occupied.{Occupied}
use Rattle.near.specs.Count.{count, first}

-- a crane stands at place p
abbrev pub holds_crane : Book → ℕ → Bool
holds_crane book p = contains p (stands_of book)

-- the number, 0 where the book is sound; the two answers
pub record HeldPlaces : Type 0 where
  pub number : ℕ
  pub held : ℕ
  pub free : ℕ

abbrev pub held_places : Result Occupied Refusal → HeldPlaces
held_places (Ok o) = record { number = 0; held = o.held; free = o.free }
held_places (Err r) = record { number = refusal_number r; held = 0; free = 0 }

-- "how many different places hold a crane, and the lowest place that holds none, or the number of places if all do"
unfoldable pub occupancy_of : Book → ℕ → Table → HeldPlaces
occupancy_of book n t =
    unless_refused (book_refusal book n t) (record { number = 0; held = count n (holds_crane book); free = first n (λ p. not (holds_crane book p)) })
    (λ m. record { number = m; held = 0; free = 0 })
