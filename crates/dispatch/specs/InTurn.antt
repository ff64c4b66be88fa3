-- A day of which each call is quoted and the crane quoted is then committed, in turn from the fresh book. `books i` is the book
-- before call i; of a commit no more is taken than its contract says.
use Rattle.std.specs.Prelude.{ℕ, ◌+◌, ◌<◌, ◌≡◌, get_or}
use Rattle.road.specs.Table.{Table}
use Rattle.dayfile.specs.declared.Day.{Day}
use Rattle.book.specs.declared.Book.{Book}
use Rattle.book.specs.Book.{fresh_of}
use Rattle.dispatch.specs.Commit.{Committed, commit_of, Next}
use Rattle.dispatch.specs.Quote.{Quoted, quote_of}

-- the place of call i
abbrev pub call_at : Day → ℕ → ℕ
call_at day i = get_or day.requests i 0

module _ (day : Day) (t : Table) (books : ℕ → Book) where
  -- the quote of call i
  abbrev pub quote_at : ℕ → Quoted
  quote_at i = quote_of (books i) day.places t (call_at day i)

  -- the commit of the crane quoted
  abbrev pub commit_at : ℕ → Committed
  commit_at i =
      commit_of (books i) day.places t (call_at day i) (quote_at i).figures.crane (books (i + 1)).plan (books (i + 1)).weights

  pub record InTurn : Type 0 where
    pub opened : books 0 ≡ (fresh_of day t).book
    pub handed : (i : ℕ) → i < day.calls → books (i + 1) ≡ (commit_at i).book
    pub next : (i : ℕ) → i < day.calls → (commit_at i).number ≡ 0 → Next (books (i + 1)) day.places t
