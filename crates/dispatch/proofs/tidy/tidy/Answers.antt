-- `dispatch::tidy::tidy` meets its contract: each array is kept up to its count, and is 0 past it.
-- Assumes nothing.
use mathlib.Core.Path.{◌≡◌}
use borrow.Author.Rules.{rules}
use lib.ListN.{length}
use native.Mathlib.Omega.{arith}
use Rattle.book.specs.Book.{most_stops, BookArrays}
use Rattle.dispatch.proofs.tidy.Laws.{cleared, tidied_by}
use Rattle.dispatch.proofs.tidy.tidy.Goals as goal
use Rattle.dispatch.proofs.tidy.tidy.Goals.{Start}

-- the lengths of the arrays
arrays : (c : Start) → BookArrays c.args.book
arrays c = record { starts = search rules; stands = search rules; requests = search rules; driven = search rules }

plan_long : (c : Start) → length c.args.book.plan ≡ most_stops
plan_long c = search rules

weights_long : (c : Start) → length c.args.book.weights ≡ most_stops
weights_long c = search rules

pub returns : goal.returns
returns c = let s = (goal.at.returns c).Start in let a = arrays s in
    tidied_by c.args.book (cleared _ _ _ _ _ a.starts (omega arith) (c.fill.ensures.after (λ y e. e))) (cleared _ _ _ _ _ a.stands (omega arith) (c.fill-2.ensures.after (λ y e. e)))
    (cleared _ _ _ _ _ a.requests (omega arith) (c.fill-3.ensures.after (λ y e. e))) (cleared _ _ _ _ _ (plan_long s) (omega arith) (c.fill-4.ensures.after (λ y e. e)))
    (cleared _ _ _ _ _ (weights_long s) (omega arith) (c.fill-5.ensures.after (λ y e. e))) (cleared _ _ _ _ _ a.driven (omega arith) (c.fill-6.ensures.after (λ y e. e)))
