-- A count of a list's entries as the sum over their indices. Assumes nothing.
use Prim.Native.Nat.{ℕ, ◌+◌}
use mathlib.Core.Bool.{Bool, true, false, cond}
use mathlib.Core.List.{List, ◌∷◌}
use mathlib.Core.Path.{◌≡◌, refl, sym, ◌∙◌}
use lib.Dec.{eqb}
use lib.ListN.{length}
use native.Mathlib.Nat.{zero-add}
use Rattle.std.specs.List.{count_by}
use Rattle.std.proofs.lemmas.List.Recursion.{is_count_by}
use Rattle.workfunction.specs.Lists.{sum_below}
use Rattle.workfunction.specs.Plan.{follows}
use Rattle.workfunction.proofs.Sums.{sum_first}
use Rattle.book.specs.Book.{follower}

one_more : (t : Bool) (n : ℕ) → cond t 1 0 + n ≡ cond t (1 + n) n
one_more true n = refl
one_more false n = zero-add n

-- the stops that b follows
pub counted : (plan : List ℕ) (b : ℕ) → count_by (λ f. eqb f b) plan ≡ sum_below (length plan) (follows (follower plan) b)
unfolding sum_below follows
counted plan b =
    sym (is_count_by (λ l. sum_below (length l) (follows (follower l) b)) (λ f. eqb f b) refl
    (λ f l. sum_first (length l) (follows (follower (f ∷ l)) b) ∙ one_more (eqb f b) (sum_below (length l) (follows (follower l) b))) plan)
