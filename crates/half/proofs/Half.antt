-- The half of an accepted square: it has the legs of the places, gives the same metres between every two of them, and is accepted.
-- Assumes nothing.
use Prim.Native.Nat.{ℕ, ◌<◌}
use mathlib.Core.Bool.{true, and-eq-true_iff}
use mathlib.Core.Path.{◌≡◌, sym, ◌∙◌}
use borrow.Author.Tests.{eqb-true, eq-eqb, ne_eqb}
use lib.Dec.{eqb}
use lib.ListN.{length, get_or}
use native.Mathlib.Omega.{arith}
use Rattle.base.specs.Tests.{all_below}
use Rattle.base.proofs.Numbers.{first_of, unless-zero}
use Rattle.base.proofs.Tests.{by_order, within_least, within_most, below_at, below_all, below_same}
use Rattle.road.specs.Table.{most_places, leg_count, leg_index, metres_of, places_rule, metres_rule, legs_rule, way_rule, triangle_rule, places_refusal, run_refusal, legs_refusal, triangle_refusal, table_refusal}
use Rattle.road.proofs.Order.{each_leg, length-in_order, in_order-at}
use Rattle.road.proofs.Table.{metres_up, metres_down, metres_self, run_passes}
use Rattle.half.specs.Square.{Square, square_metres, leg_rule, square_legs_refusal, square_triangle_refusal, square_refusal, half_of}

-- what an accepted square says
record Accepted (n : ℕ) (s : Square) : Type 0 where
  places : places_rule n ≡ true
  legs : (u v : ℕ) → u < n → v < n → leg_rule (square_metres s) u v ≡ true
  triangles : triangle_rule n (square_metres s) ≡ true

accepted : (n : ℕ) (s : Square) → square_refusal n s ≡ 0 → Accepted n s
unfolding square_refusal
accepted n s h =
    let places = first_of (places_rule n) 2 _ h in
    let legs = first_of (all_below n (λ u. all_below n (leg_rule (square_metres s) u))) 3 _ places.1 in
    record {
      places = places.0;
      legs = λ u v p q. below_at (leg_rule (square_metres s) u) n (below_at (λ (a : ℕ). all_below n (leg_rule (square_metres s) a)) n legs.0 u p) v q;
      triangles = unless-zero (triangle_rule n (square_metres s)) 7 legs.1;
    }

-- the rule of a leg
module _ (d : ℕ → ℕ → ℕ) (u v : ℕ) (rule : leg_rule d u v ≡ true) where
  self_leg : u ≡ v → d u v ≡ 0
  unfolding leg_rule
  self_leg e = eqb-true (d u v) 0 (rw (eq-eqb u v e) at rule)

  other_leg : (u ≡ v → ⊥) → (d u v ≡ d v u) × (metres_rule (d u v) ≡ true)
  unfolding leg_rule
  other_leg ne =
      let both = (and-eq-true_iff (eqb (d u v) (d v u)) (metres_rule (d u v))).0 (rw (ne_eqb u v ne) at rule) in
      (eqb-true (d u v) (d v u) both.0, both.1)

-- metres that agree between the places keep the triangle rule alike
same-triangle_rule : (n : ℕ) (d e : ℕ → ℕ → ℕ) → ((u v : ℕ) → u < n → v < n → d u v ≡ e u v) → triangle_rule n d ≡ triangle_rule n e
same-triangle_rule n d e same =
    below_same _ _ n (λ u p. below_same _ _ n (λ v q. below_same (way_rule d u v) (way_rule e u v) n (λ w r. rw (same u w p r, same u v p q, same v w q r))))

module _ (n : ℕ) (s : Square) (h : square_refusal n s ≡ 0) where
  says : Accepted n s
  says = accepted n s h

  pub half_long : length (half_of n s) ≡ leg_count n
  half_long = length-in_order _ n

  half_leg : (u v : ℕ) → u < v → v < n → get_or (half_of n s) (leg_index u v) 0 ≡ square_metres s u v
  half_leg u v p q = in_order-at _ 0 n u v p q

  -- "For every accepted square the half gives the same distance for every two places"
  pub half_distance : (u v : ℕ) → u < n → v < n → metres_of (half_of n s) u v ≡ square_metres s u v
  half_distance u v p q = by_order u v
      (λ (l : u < v). metres_up (half_of n s) u v l ∙ half_leg u v l q)
      (λ (e : u ≡ v). metres_self (half_of n s) u v e ∙ sym (self_leg (square_metres s) u v (says.legs u v p q) e))
      (λ (l : v < u). metres_down (half_of n s) u v l ∙ half_leg v u l p ∙ (other_leg (square_metres s) v u (says.legs v u q p) (λ e. omega arith)).0)

  -- 3 applies to neither
  pub half_places : places_refusal n ≡ 0
  half_places = rw says.places

  pub half_run : run_refusal n (length (half_of n s)) ≡ 0
  half_run = run_passes n _ (within_least 1 most_places n says.places) (within_most 1 most_places n says.places) half_long

  -- nor 4
  half_legs : legs_rule (half_of n s) ≡ true
  half_legs =
      rw half_long
      (below_all _ (leg_count n) (each_leg (λ (i : ℕ). metres_rule (get_or (half_of n s) i 0) ≡ true) n
      (λ u v p q. rw (half_leg u v p q) (other_leg (square_metres s) u v (says.legs u v (omega arith) q) (λ e. omega arith)).1)))

  pub half_metres : legs_refusal (half_of n s) ≡ 0
  half_metres = rw half_legs

  pub square_legs : square_legs_refusal n s ≡ 0
  square_legs = rw (below_all _ n (λ u p. below_all (leg_rule (square_metres s) u) n (λ v q. says.legs u v p q)))

  -- nor 8
  pub half_triangles : triangle_refusal n (half_of n s) ≡ 0
  half_triangles = rw (same-triangle_rule n (metres_of (half_of n s)) (square_metres s) half_distance, says.triangles)

  pub square_triangles : square_triangle_refusal n s ≡ 0
  square_triangles = rw says.triangles

  pub half_accepted : table_refusal n (half_of n s) ≡ 0
  half_accepted = rw (half_run, half_metres, half_triangles)
