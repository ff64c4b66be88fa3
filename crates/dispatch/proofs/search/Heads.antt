-- Weights raised above every leg, so that the heads of stops are natural numbers, and what weights that vouch say of heads.
-- Assumes nothing.
use Prim.Native.Nat.{ℕ, suc, ◌+◌, ◌-◌, ◌<◌, ◌≤◌}
use mathlib.Core.Bool.{true}
use mathlib.Core.Logic.{◌⊎◌}
use mathlib.Core.Path.{◌≡◌, refl, ap}
use borrow.Author.Tests.{le-ltb}
use lib.IntN.{ℤ, pos, negsuc, nat_abs, ◌+ℤ◌, ◌-ℤ◌}
use native.Mathlib.Omega.{arith}
use Rattle.base.proofs.Signed.{plus, minus, plus_difference, le_parts}
use Rattle.base.proofs.Tests.{below_at}
use Rattle.road.specs.Table.{most_metres}
use Rattle.workfunction.specs.Plan.{slack_rule, vouch_at, vouch_rule}
use Rattle.workfunction.proofs.Plan.{may_follow_lem}
use Rattle.book.specs.Book.{weight_rule}
use Rattle.dispatch.specs.Search.{lift, head_of}
use Rattle.book.proofs.Vouching.{Ranged, ranged}

-- m is the weight y raised
pub record Lifted (y : ℤ) (m : ℕ) : Type 0 where
  pub sum : y +ℤ pos lift ≡ pos m
  pub parts : m + minus y ≡ plus y + lift

by_sign : (y : ℤ) → Ranged y → (m : ℕ) × Lifted y m
unfolding plus minus
by_sign (pos n) r = (n + lift, record { sum = refl; parts = omega arith })
by_sign (negsuc n) r =
    let low : suc n ≤ 1099511627776 = r.low in
    (lift - suc n, record { sum = rw (le-ltb lift (suc n) (omega arith)); parts = omega arith })

pub lifted : (y : ℤ) → weight_rule y ≡ true → (m : ℕ) × Lifted y m
lifted y h = by_sign y (ranged y h)

module _ (y : ℤ) (leg : ℕ) (h : weight_rule y ≡ true) (short : leg ≤ most_metres) where
  -- the head and the leg make the raised weight
  pub head_parts : head_of y leg + leg + minus y ≡ plus y + lift
  unfolding head_of
  head_parts =
      let up = lifted y h in
      let low = (ranged y h).low in
      let e : nat_abs (y +ℤ pos lift) ≡ up.0 = ap nat_abs up.1.sum in
      let parts = up.1.parts in
      omega arith

  pub head_high : head_of y leg ≤ 4398046511104
  head_high = let e = head_parts in let r = ranged y h in omega arith

-- where the weights vouch, a stop's head and leg are no more than another's head and its leg to the same follower
module _ (k N : ℕ) (f : ℕ → ℕ) (c : ℕ → ℕ → ℕ) (y : ℕ → ℤ) (vouched : vouch_rule k N f c y ≡ true)
    (in_range : (b : ℕ) → b < N → weight_rule (y b) ≡ true) (below : (p : ℕ) → p < N → f p < N)
    (short : (p b : ℕ) → p < N → b < N → c p b ≤ most_metres) where
  pub heads_vouch : (p q : ℕ) → p < N → q < N → (f q < k) ⊎ (p < f q)
      → head_of (y (f q)) (c q (f q)) + c q (f q) ≤ head_of (y (f p)) (c p (f p)) + c p (f q)
  unfolding vouch_rule vouch_at slack_rule plus minus
  heads_vouch p q lt less may =
      let passed = below_at _ N (below_at _ N vouched p lt) (f q) (below q less) in
      let order = le_parts (y (f q) -ℤ y (f p)) (pos (c p (f q)) -ℤ pos (c p (f p))) (rw (may_follow_lem k p (f q) may) at passed) in
      let left = plus_difference (y (f q)) (y (f p)) in
      let right = plus_difference (pos (c p (f q))) (pos (c p (f p))) in
      let mine = head_parts (y (f p)) (c p (f p)) (in_range (f p) (below p lt)) (short p (f p) lt (below p lt)) in
      let theirs = head_parts (y (f q)) (c q (f q)) (in_range (f q) (below q less)) (short q (f q) less (below q less)) in
      omega arith
