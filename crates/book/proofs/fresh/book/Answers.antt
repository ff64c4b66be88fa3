-- `book::fresh::book` meets its contract: the places and the plan are within the count, and all else is 0.
-- Assumes nothing.
use Prim.Native.Nat.{ℕ, ◌≤◌}
use mathlib.Core.List.{List, ◌++◌}
use mathlib.Core.Path.{◌≡◌}
use borrow.Author.Rules.{rules}
use lib.IntN.{pos}
use lib.ListN.{length, get_or, take, drop, replicate}
use native.Mathlib.Omega.{arith}
use Rattle.base.specs.Lists.{padded}
use Rattle.base.proofs.Lists.{take-up_to, drop-replicate, padded_by}
use Rattle.dayfile.specs.Day.{most_cranes, most_calls}
use Rattle.book.specs.declared.Book.{Book}
use Rattle.book.specs.Book.{most_stops, fresh_book}
use Rattle.book.proofs.fresh.book.Goals as goal

made : (k : ℕ) (starts places plan : List ℕ) → places ≡ padded most_cranes k (λ j. get_or starts j 0) 0 → plan ≡ padded most_stops k (λ j. j) 0
    → ◌≡◌ {A = Book} (record { cranes = k; calls = 0; starts = places; stands = places; requests = replicate most_calls 0; plan = plan; weights = replicate most_stops (pos 0); driven = replicate most_cranes 0 }) (fresh_book k starts)
unfolding fresh_book
made k starts places plan e f =
    λ i. record { cranes = k; calls = 0; starts = e i; stands = e i; requests = replicate most_calls 0; plan = f i; weights = replicate most_stops (pos 0); driven = replicate most_cranes 0 }

kept : (k : ℕ) (starts front : List ℕ) → k ≤ length starts → front ≡ take k starts
    → front ++ drop k (replicate most_cranes 0) ≡ padded most_cranes k (λ j. get_or starts j 0) 0
kept k starts front h e = rw (e, take-up_to k starts 0 h, drop-replicate {A = ℕ} k most_cranes 0)

pub returns : goal.returns
returns c = let long : length c.args.starts ≡ most_cranes = search rules in
    made _ _ _ _ (kept _ _ _ (omega arith) c.copy_from_slice.ensures.after) (padded_by most_stops c.args.cranes (λ j. j) 0 _ (omega arith) c.number.ensures)
