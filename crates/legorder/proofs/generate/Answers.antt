-- `legorder::generate` meets its contract: once the legs to the places below v are written, the columns begin with them.
-- Assumes nothing.
use Prim.Native.Nat.{ℕ, ◌+◌, ◌<◌, ◌≤◌, zero-le}
use mathlib.Core.List.{List, ◌++◌, append_assoc}
use mathlib.Core.Path.{◌≡◌, refl, sym, ap, subst, ◌∙◌}
use lib.ListN.{length, take, length-append}
use lib.Seq.{take_all, take_at, length-take-le}
use native.Mathlib.Nat.{le_antisymm}
use native.Mathlib.Omega.{arith}
use Rattle.base.specs.Lists.{up_to, splice}
use Rattle.base.proofs.Lists.{length-up_to, length-splice}
use Rattle.road.specs.Table.{most_places, most_legs, leg_count, in_order}
use Rattle.road.proofs.Order.{no_legs, all_legs, legs_before, leg_count_more, in_order_more, map-in_order}
use Rattle.legorder.specs.declared.Columns.{Columns}
use Rattle.legorder.specs.declared.Pair.{Pair}
use Rattle.legorder.specs.Pairs.{leg_pair, pairs, columns_of}
use Rattle.legorder.proofs.generate.Invariants.{Begins}
use Rattle.legorder.proofs.generate.Goals as goal

module _ (f : ℕ → ℕ → ℕ) where
  begun : (now : List ℕ) → length now ≡ most_legs → Begins f now 0
  unfolding in_order
  begun now e = record { most = zero-le; long = e; front = rw no_legs }

  -- there is room for the legs to v
  fits : (now : List ℕ) (v : ℕ) → Begins f now v → v < most_places → leg_count v + v ≤ length now
  fits now v p lt = omega (arith, legs_before v most_places lt, all_legs, p.long)

  turned : (now new : List ℕ) (v : ℕ) → Begins f now v → v < most_places → new ≡ splice (leg_count v) (up_to v (λ u. f u v)) now
      → Begins f new (v + 1)
  unfolding splice
  turned now new v p lt e =
      let row : List ℕ = up_to v (λ u. f u v) in
      let front : List ℕ = take (leg_count v) now in
      let room : leg_count v + v ≤ length now = fits now v p lt in
      let long : length row ≡ v = length-up_to v (λ u. f u v) in
      let both : length (front ++ row) ≡ leg_count v + v = length-append front row ∙ rw (length-take-le (leg_count v) now (omega arith), long) in
      record {
        most = omega arith;
        long = ap length e ∙ length-splice (leg_count v) row now (rw long room) ∙ p.long;
        front = rw (e, leg_count_more v, ← append_assoc front row _, take_at (front ++ row) _ (leg_count v + v) both, in_order_more f v, p.front);
      }

  ended : (now : List ℕ) (v : ℕ) → Begins f now v → most_places ≤ v → now ≡ in_order f most_places
  ended now v p le =
      sym (take_all (leg_count most_places) now (omega (arith, all_legs, p.long))) ∙ subst (λ (n : ℕ). take (leg_count n) now ≡ in_order f n) (le_antisymm p.most le) p.front

-- the columns of the pairs
columns : (firsts seconds : List ℕ) → firsts ≡ in_order (λ u w. u) most_places → seconds ≡ in_order (λ u w. w) most_places
    → ◌≡◌ {A = Columns} (record { firsts = firsts; seconds = seconds }) (columns_of (pairs most_places))
columns firsts seconds e g =
    rw (e, g, map-in_order (λ (p : Pair). p.first) leg_pair most_places, map-in_order (λ (p : Pair). p.second) leg_pair most_places)

pub loop-v-init : goal.loop-v-init
loop-v-init c = (begun _ _ refl, begun _ _ refl)

pub legs_to-requires : goal.legs_to-requires
legs_to-requires c = (c.loop-v-test.true, (fits _ _ _ c.loop-v.invariant.0 c.loop-v-test.true, fits _ _ _ c.loop-v.invariant.1 c.loop-v-test.true))

pub loop-v-preserved : goal.loop-v-preserved
loop-v-preserved c = (turned _ _ _ _ c.loop-v.invariant.0 c.loop-v-test.true c.legs_to.ensures.0, turned _ _ _ _ c.loop-v.invariant.1 c.loop-v-test.true c.legs_to.ensures.1)

pub returns : goal.returns
returns c = columns _ _ (ended _ _ _ c.loop-v.invariant.0 c.loop-v-test.false) (ended _ _ _ c.loop-v.invariant.1 c.loop-v-test.false)
