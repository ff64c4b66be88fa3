-- `dispatch::nets::accepted` meets its contract: the net costs of the search, signed, are those of the book's cranes. Assumes nothing.
use mathlib.Core.Path.{refl}
use borrow.Author.Rules.{rules}
use native.Mathlib.Omega.{arith}
use Rattle.book.specs.Book.{BookArrays}
use Rattle.dispatch.proofs.Called.{Called, quote_called}
use Rattle.dispatch.proofs.nets.Laws.{nets-told}
use Rattle.dispatch.proofs.nets.accepted.Goals as goal
use Rattle.dispatch.proofs.nets.accepted.Goals.{Start}

-- the call may be quoted
called : (c : Start) → Called c.args.book c.requires.0 c.args.table.now c.args.place
called c = quote_called c.requires.1

arrays : (c : Start) → BookArrays c.args.book
arrays c = record { starts = search rules; stands = search rules; requests = search rules; driven = search rules }

pub of_book-ends-requires : goal.of_book-ends-requires
of_book-ends-requires c = record { places = c.requires.0; accepted = c.requires.1; costed = c.zeros-costs.ensures }

pub lower-requires : goal.lower-requires
lower-requires c = let k = (called (goal.at.lower-requires c).Start).sound.counts in
    record {
      netted = omega (arith, k.cranes);
      listed = omega (arith, k.cranes);
      low = (c.of_book-ends.ensures _ c.requires.1).low;
    }

pub returns : goal.returns
returns c = λ n h.
    nets-told (arrays (goal.at.returns c).Start) (quote_called h) (c.of_book-ends.ensures n h) c.lower.ensures refl
