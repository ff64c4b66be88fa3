-- `dispatch::Dispatch::serve_day` meets its contract: a refusal of the day is handed up with zeros, else the day is served.
-- Assumes nothing.
use Prim.Native.Nat.{ℕ, zero, suc}
use mathlib.Core.Path.{◌≡◌, refl, sym, ap, ◌∙◌}
use Rattle.base.specs.Numbers.{unless_refused}
use Rattle.base.proofs.Numbers.{told_up}
use Rattle.road.specs.Table.{Table}
use Rattle.dayfile.specs.declared.Day.{Day}
use Rattle.dayfile.specs.Day.{day_refusal}
use Rattle.book.specs.declared.Book.{Book}
use Rattle.book.specs.Book.{Opened, fresh_book, empty_book, fresh_of}
use Rattle.dispatch.specs.ServedDay.{day_figures, served_day}
use Rattle.dispatch.proofs.Dispatch.serve_day.Goals as goal

-- the number and the book that an opening tells
told_number : (n : ℕ) (a b : Book) → (unless_refused {A = Opened} n (record { number = 0; book = a }) (λ m. record { number = m; book = b })).number ≡ n
told_number zero a b = refl
told_number (suc n) a b = refl

module _ (day : Day) (t : Table) (o : Opened) (e : o ≡ fresh_of day t) where
  opened_number : o.number ≡ day_refusal day t
  unfolding fresh_of
  opened_number = ap (λ (x : Opened). x.number) e ∙ told_number (day_refusal day t) (fresh_book day.cranes day.starts) empty_book

  opened_book : day_refusal day t ≡ 0 → o.book ≡ fresh_book day.cranes day.starts
  unfolding fresh_of
  opened_book h = ap (λ (x : Opened). x.book) e ∙ rw h

pub returns-in_err-book : goal.returns-in_err-book
unfolding served_day
returns-in_err-book c = told_up day_figures _ _ _ _ _ c.from_residual.ensures.1 (opened_number _ _ _ c.in_err-book.ensures) refl

pub served-requires : goal.served-requires
served-requires c = let tested = sym (opened_number _ _ _ c.in_ok-book.ensures) in
    (tested, opened_book _ _ _ c.in_ok-book.ensures tested)
