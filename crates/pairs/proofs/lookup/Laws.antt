-- The laws of what is told of an index and of a pair.
-- Assumes nothing.
use Prim.Native.Nat.{ℕ, ◌<◌}
use mathlib.Core.Bool.{◌&&◌, and-eq-true_iff}
use mathlib.Core.Path.{◌≡◌, refl, sym, ap, ◌∙◌}
use borrow.Author.Tests.{ltb-true, lt-ltb}
use lib.Dec.{ltb}
use lib.ListN.{get_or}
use native.Mathlib.Omega.{arith}
use Rattle.base.proofs.Numbers.{unless-zero, accepted_values}
use Rattle.road.specs.Table.{most_places, most_legs, leg_index}
use Rattle.road.proofs.Order.{all_legs, legs_before, in_order-at}
use Rattle.legorder.specs.declared.Pair.{Pair}
use Rattle.legorder.specs.Pairs.{leg_pair, pairs}
use Rattle.pairs.specs.Lookup.{index_refusal, pair_refusal, PairTold, pair_at_of, IndexTold, index_of}

module _ (i : ℕ) where
  -- an accepted index is below the most legs
  pub index_below : index_refusal i ≡ 0 → i < most_legs
  index_below h = ltb-true i most_legs (unless-zero (ltb i most_legs) 4 h)

  pub pair_number : (pair_at_of i).number ≡ 0 → index_refusal i ≡ 0
  unfolding pair_at_of
  pair_number h = accepted_values (index_refusal i) _ _ (λ (x : PairTold). x.number) (λ m. refl) h

  pub pair_accepted : index_refusal i ≡ 0 → ◌≡◌ {A = PairTold} (record { number = 0; pair = get_or (pairs most_places) i (leg_pair 0 0) }) (pair_at_of i)
  unfolding pair_at_of
  pair_accepted h = rw h

module _ (u v : ℕ) where
  -- an accepted pair is a leg
  pub pair-leg : pair_refusal u v ≡ 0 → (u < v) × (v < most_places)
  pair-leg h =
      let both = (and-eq-true_iff (ltb u v) (ltb v most_places)).0 (unless-zero (ltb u v && ltb v most_places) 4 h) in
      (ltb-true u v both.0, ltb-true v most_places both.1)

  pub index_accepted : pair_refusal u v ≡ 0 → ◌≡◌ {A = IndexTold} (record { number = 0; index = leg_index u v }) (index_of u v)
  unfolding index_of
  index_accepted h = rw h

  pub index_number : (index_of u v).number ≡ 0 → pair_refusal u v ≡ 0
  unfolding index_of
  index_number h = accepted_values (pair_refusal u v) _ _ (λ (x : IndexTold). x.number) (λ m. refl) h

  -- a leg is told at its index
  pub leg-told : u < v → v < most_places → pair_at_of (leg_index u v) ≡ record { number = 0; pair = leg_pair u v }
  leg-told p q =
      sym (pair_accepted (leg_index u v) (rw (lt-ltb (leg_index u v) most_legs (omega (arith, legs_before v most_places q, all_legs)))))
      ∙ ap (λ (x : Pair). record { number = 0; pair = x }) (in_order-at leg_pair (leg_pair 0 0) most_places u v p q)

  -- .. and has this index
  pub leg_index_lem : u < v → v < most_places → index_of u v ≡ record { number = 0; index = leg_index u v }
  leg_index_lem p q = sym (index_accepted (rw (lt-ltb u v p, lt-ltb v most_places q)))
