-- One table beside another: what the test of the bounds says of each leg, and that figures which are no higher leg by leg are no higher between
-- any two places. Assumes nothing.
use Prim.Native.Nat.{ℕ, ◌<◌, ◌≤◌, zero-le}
use mathlib.Core.Bool.{Bool, true, false, false≢true}
use mathlib.Core.Path.{◌≡◌, refl}
use borrow.Author.Tests.{le-leb, leb-true}
use lib.Dec.{leb}
use lib.ListN.{length, get_or}
use native.Mathlib.Omega.{arith}
use Rattle.std.proofs.Common.{◌↔◌, IsTrue, EachIndex}
use Rattle.base.proofs.Tests.{by_order, below_at, below_all}
use Rattle.road.specs.Table.{Table, leg_count, leg_index, metres_of}
use Rattle.road.proofs.Order.{legs_before}
use Rattle.road.proofs.Table.{metres_up, metres_down, metres_self}
use Rattle.rough.specs.Rough.{bounds_rule}

-- the test is whether no figure of the first table exceeds its own of the second
pub bounds_decided : (a b : Table) (r : Bool) → (IsTrue r ↔ EachIndex a (λ i. get_or a i 0 ≤ get_or b i 0)) → bounds_rule a b ≡ r
unfolding bounds_rule
bounds_decided a b true e = below_all _ (length a) (λ i l. le-leb (get_or a i 0) (get_or b i 0) (e.0 refl i l))
bounds_decided a b false e = go (bounds_rule a b) refl
  where
    go : (r : Bool) → bounds_rule a b ≡ r → bounds_rule a b ≡ false
    go true h = absurd (false≢true (e.1 (λ i l. leb-true (get_or a i 0) (get_or b i 0) (below_at _ (length a) h i l))))
    go false h = h

module _ (n : ℕ) (a b : Table) where
  -- the figures of tables that passed the test, the first having the legs of n places
  pub bounds_hold : bounds_rule a b ≡ true → length a ≡ leg_count n → (i : ℕ) → i < leg_count n → get_or a i 0 ≤ get_or b i 0
  unfolding bounds_rule
  bounds_hold rule legs i l =
      leb-true (get_or a i 0) (get_or b i 0) (below_at (λ j. leb (get_or a j 0) (get_or b j 0)) (length a) rule i (rw legs l))

  pub metres_more : ((i : ℕ) → i < leg_count n → get_or a i 0 ≤ get_or b i 0) → (u v : ℕ) → u < n → v < n → metres_of a u v ≤ metres_of b u v
  metres_more more u v p q =
      by_order u v
      (λ (l : u < v). rw (metres_up a u v l, metres_up b u v l) (more (leg_index u v) (let all = legs_before v n q in omega arith)))
      (λ (e : u ≡ v). rw (metres_self a u v e) zero-le)
      (λ (l : v < u). rw (metres_down a u v l, metres_down b u v l) (more (leg_index v u) (let all = legs_before u n p in omega arith)))
