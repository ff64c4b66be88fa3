-- The triangle rule of each three places in ascending order is the rule of all places, where the metres are 0 from a place to itself
-- and the same both ways. Assumes nothing.
use Prim.Native.Nat.{ℕ, ◌+◌, ◌<◌, ◌≤◌}
use mathlib.Core.Bool.{Bool, true, false, ◌&&◌, and-eq-true_iff}
use mathlib.Core.Path.{◌≡◌, refl, sym, ap}
use borrow.Author.Tests.{leb-true, le-leb}
use lib.Dec.{leb}
use native.Mathlib.Omega.{arith}
use Rattle.base.specs.Tests.{all_below}
use Rattle.base.proofs.Tests.{by_order, below_at, below_all}
use Rattle.road.specs.Table.{way_rule, triangle_rule}
use Rattle.road.specs.Triangles.{sides_rule, pair_rule, place_rule}

-- two tests that imply one another agree
both_or_neither : (a b : Bool) → (a ≡ true → b ≡ true) → (b ≡ true → a ≡ true) → a ≡ b
both_or_neither true b there back = sym (there refl)
both_or_neither false true there back = back refl
both_or_neither false false there back = refl

-- what the test of three legs says
record Sides (a b c : ℕ) : Type 0 where
  first : a ≤ b + c
  second : b ≤ a + c
  third : c ≤ a + b

sides_kept : (a b c : ℕ) → sides_rule a b c ≡ true → Sides a b c
unfolding sides_rule
sides_kept a b c h =
    let two = (and-eq-true_iff (leb a (b + c) && leb b (a + c)) (leb c (a + b))).0 h in
    let one = (and-eq-true_iff (leb a (b + c)) (leb b (a + c))).0 two.0 in
    record { first = leb-true a (b + c) one.0; second = leb-true b (a + c) one.1; third = leb-true c (a + b) two.1 }

sides_hold : (a b c : ℕ) → Sides a b c → sides_rule a b c ≡ true
unfolding sides_rule
sides_hold a b c h = rw (le-leb a (b + c) h.first, le-leb b (a + c) h.second, le-leb c (a + b) h.third)

module _ (n : ℕ) (d : ℕ → ℕ → ℕ) where
  -- what the rule of all places says
  pub way_at : triangle_rule n d ≡ true → (u v w : ℕ) → u < n → v < n → w < n → d u w ≤ d u v + d v w
  way_at h u v w p q r =
      let from = below_at (λ (a : ℕ). all_below n (λ (b : ℕ). all_below n (way_rule d a b))) n h u p in
      let by = below_at (λ (b : ℕ). all_below n (way_rule d u b)) n from v q in
      leb-true (d u w) (d u v + d v w) (below_at (way_rule d u v) n by w r)

  ways_hold : ((u v w : ℕ) → u < n → v < n → w < n → d u w ≤ d u v + d v w) → triangle_rule n d ≡ true
  ways_hold h =
      below_all _ n (λ u p. below_all _ n (λ v q. below_all (way_rule d u v) n (λ w r. le-leb (d u w) (d u v + d v w) (h u v w p q r))))

  -- what the rule of ascending places says
  sides_at : all_below n (place_rule d) ≡ true → (u v w : ℕ) → u < v → v < w → w < n → Sides (d u v) (d u w) (d v w)
  sides_at h u v w p q r =
      let pair = below_at (pair_rule d w) w (below_at (place_rule d) n h w r) v q in
      sides_kept (d u v) (d u w) (d v w) (below_at (λ (x : ℕ). sides_rule (d x v) (d x w) (d v w)) v pair u p)

  places_hold : ((u v w : ℕ) → u < v → v < w → w < n → Sides (d u v) (d u w) (d v w)) → all_below n (place_rule d) ≡ true
  places_hold h =
      below_all (place_rule d) n (λ w r. below_all (pair_rule d w) w (λ v q. below_all _ v (λ u p. sides_hold (d u v) (d u w) (d v w) (h u v w p q r))))

  module _ (self : (u : ℕ) → d u u ≡ 0) (both : (u v : ℕ) → d u v ≡ d v u) where
    sides_of_ways : ((u v w : ℕ) → u < n → v < n → w < n → d u w ≤ d u v + d v w)
        → (u v w : ℕ) → u < v → v < w → w < n → Sides (d u v) (d u w) (d v w)
    sides_of_ways way u v w p q r =
        let in-u : u < n = omega arith in
        let in-v : v < n = omega arith in
        record {
          first = omega (arith, way u w v in-u r in-v, both w v);
          second = way u v w in-u in-v r;
          third = omega (arith, way v u w in-v in-u r, both v u);
        }

    ways_of_sides : ((u v w : ℕ) → u < v → v < w → w < n → Sides (d u v) (d u w) (d v w))
        → (u v w : ℕ) → u < n → v < n → w < n → d u w ≤ d u v + d v w
    ways_of_sides sides u v w p q r =
        let uv = both u v in
        let uw = both u w in
        let vw = both v w in
        by_order u w
        (λ (a : u < w). by_order u v
        (λ (b : u < v). by_order v w
        (λ (c : v < w). (sides u v w b c r).second)
        (λ (e : v ≡ w). omega (arith, ap (d u) e))
        (λ (c : w < v). let s = sides u w v a c q in omega arith))
        (λ (e : u ≡ v). omega (arith, ap (λ (x : ℕ). d x w) e))
        (λ (b : v < u). let s = sides v u w b a r in omega arith))
        (λ (e : u ≡ w). omega (arith, self u, ap (d u) e))
        (λ (a : w < u). by_order v w
        (λ (b : v < w). let s = sides v w u b a p in omega arith)
        (λ (e : v ≡ w). omega (arith, ap (d u) e))
        (λ (b : w < v). by_order u v
        (λ (c : u < v). let s = sides w u v a c q in omega arith)
        (λ (e : u ≡ v). omega (arith, ap (λ (x : ℕ). d x w) e))
        (λ (c : v < u). let s = sides w v u b c p in omega arith)))

    pub triangles_by_sides : all_below n (place_rule d) ≡ triangle_rule n d
    triangles_by_sides =
        both_or_neither (all_below n (place_rule d)) (triangle_rule n d) (λ h. ways_hold (ways_of_sides (sides_at h)))
        (λ h. places_hold (sides_of_ways (way_at h)))
