-- The laws of the metres of the cranes: none exceeds the most, and the drive of one more call raises the most by that of a leg.
-- Assumes nothing.
use Prim.Native.Nat.{ℕ, ◌+◌, ◌*◌, ◌<◌, ◌≤◌}
use mathlib.Core.Bool.{true}
use mathlib.Core.List.{List}
use mathlib.Core.Path.{◌≡◌}
use borrow.Author.Tests.{le-leb, leb-true}
use lib.Dec.{leb}
use lib.ListN.{length, get_or, set, length-set}
use lib.Seq.{get_or-set_same, get_or-set_other}
use native.Mathlib.Decide.{ℕ_discrete}
use native.Mathlib.Omega.{arith}
use Rattle.base.proofs.Tests.{below_at, below_all}
use Rattle.road.specs.Table.{most_metres}
use Rattle.book.specs.Book.{driven_rule}

module _ (most : ℕ) (driven : List ℕ) where
  pub driven-at : driven_rule most driven ≡ true → (j : ℕ) → j < length driven → get_or driven j 0 ≤ most
  driven-at rule j h = leb-true _ _ (below_at (λ i. leb (get_or driven i 0) most) (length driven) rule j h)

  pub driven-within : ((j : ℕ) → j < length driven → get_or driven j 0 ≤ most) → driven_rule most driven ≡ true
  driven-within all = below_all _ (length driven) (λ j h. le-leb _ _ (all j h))

-- crane s drives to one more call
pub driven_more : (m : ℕ) (driven : List ℕ) (s metres : ℕ) → driven_rule (most_metres * m) driven ≡ true → metres ≤ most_metres
    → driven_rule (most_metres * (m + 1)) (set driven s (get_or driven s 0 + metres)) ≡ true
driven_more m driven s metres rule short =
    driven-within (most_metres * (m + 1)) (set driven s (get_or driven s 0 + metres)) (λ j h. each j (rw length-set at h) (ℕ_discrete j s))
  where
    each : (j : ℕ) → j < length driven → Dec (j ≡ s) → get_or (set driven s (get_or driven s 0 + metres)) j 0 ≤ most_metres * (m + 1)
    each j h (yes e) =
        let here : s < length driven = rw (← e) h in
        let old : get_or driven s 0 ≤ most_metres * m = driven-at (most_metres * m) driven rule s here in
        rw (e, get_or-set_same driven s (get_or driven s 0 + metres) 0 here) (omega (arith, old, short))
    each j h (no away) =
        let old : get_or driven j 0 ≤ most_metres * m = driven-at (most_metres * m) driven rule j h in
        rw (get_or-set_other driven s j (get_or driven s 0 + metres) 0 away) (omega (arith, old))
