-- A plan with the follower of one stop freed: from that stop on, each stop takes the follower of its parent, by swaps, until
-- the new call's stop N has the freed one. One step serves a program's loop and shows that there is such a plan. Assumes nothing.
use Prim.Native.Nat.{ℕ, zero, suc, ◌+◌, ◌<◌, ◌≤◌}
use mathlib.Core.List.{List}
use mathlib.Core.Logic.{◌⊎◌, inl, inr, ⊎_elim}
use mathlib.Core.Path.{◌≡◌, refl, sym, subst, ◌∙◌}
use lib.ListN.{length, get_or, set, length-set}
use lib.Seq.{get_or-set_same, get_or-set_other}
use native.Mathlib.Decide.{ℕ_discrete}
use native.Mathlib.Nat.{lt_irrefl, le_refl, not-suc-le-zero, eq-or-lt_of_le}
use native.Mathlib.Omega.{arith}
use Rattle.workfunction.specs.NetCost.{Chains, SameCounts, Flipped}
use Rattle.workfunction.specs.Plan.{follows}
use Rattle.workfunction.proofs.Sums.{put, put_at, put_other, sum_swapped}

-- ---- a swap

-- h is g with the values at i and j swapped
pub record Swapped (i j : ℕ) (g h : ℕ → ℕ) : Type 0 where
  pub here : h i ≡ g j
  pub there : h j ≡ g i
  pub others : (p : ℕ) → (p ≡ i → ⊥) → (p ≡ j → ⊥) → h p ≡ g p

swap : ℕ → ℕ → (ℕ → ℕ) → ℕ → ℕ
swap i j g = put i (g j) (put j (g i) g)

swap_swapped : (i j : ℕ) (g : ℕ → ℕ) → (i ≡ j → ⊥) → Swapped i j g (swap i j g)
unfolding swap
swap_swapped i j g ne =
    record {
      here = put_at i (g j) (put j (g i) g);
      there = put_other i (g j) (put j (g i) g) j (λ e. ne (sym e)) ∙ put_at j (g i) g;
      others = λ p hi hj. put_other i (g j) (put j (g i) g) p hi ∙ put_other j (g i) g p hj;
    }

-- two entries of a list
pub set_swapped : (l : List ℕ) (i j : ℕ) → i < length l → j < length l → (i ≡ j → ⊥)
    → Swapped i j (λ p. get_or l p 0) (λ p. get_or (set (set l i (get_or l j 0)) j (get_or l i 0)) p 0)
set_swapped l i j hi hj ne =
    let once : List ℕ = set l i (get_or l j 0) in
    record {
      here = get_or-set_other once j i (get_or l i 0) 0 ne ∙ get_or-set_same l i (get_or l j 0) 0 hi;
      there = get_or-set_same once j (get_or l i 0) 0 (rw (length-set l i (get_or l j 0)) hj);
      others = λ p away far. get_or-set_other once j p (get_or l i 0) 0 far ∙ get_or-set_other l i p (get_or l j 0) 0 away;
    }

-- ---- the walk

-- the walk from t has come to the stop `at`, which holds the freed follower; the stops ahead hold their own
pub record Flipping (N : ℕ) (f parent rank : ℕ → ℕ) (t at : ℕ) (g : ℕ → ℕ) : Type 0 where
  pub on : at ≤ N
  pub freed : g at ≡ f t
  pub taken : (p : ℕ) → p < N → (p ≡ at → ⊥) → (g p ≡ f p) ⊎ (g p ≡ f (parent p))
  pub ahead : (p : ℕ) → p ≤ N → rank p < rank at → g p ≡ f p
  pub counts : SameCounts N f g

pub flip_begun : {N t : ℕ} (f parent rank : ℕ → ℕ) → t ≤ N → Flipping N f parent rank t t f
flip_begun f parent rank h =
    record { on = h; freed = refl; taken = λ p lt away. inl refl; ahead = λ p le lt. refl; counts = λ b. refl }

pub flip_ended : {N t : ℕ} {f parent rank g : ℕ → ℕ} → Flipping N f parent rank t N g → Flipped N f parent t g
flip_ended walk = record { freed = walk.freed; taken = λ p lt. walk.taken p lt (omega arith); counts = walk.counts }

-- stops of different ranks
lower_other : (rank : ℕ → ℕ) (p q : ℕ) → rank p < rank q → p ≡ q → ⊥
lower_other rank p q h e = lt_irrefl (rank q) (rw e at h)

module _ {N : ℕ} {parent rank : ℕ → ℕ} (chains : Chains N parent rank) where
  -- what holds of N, and of a stop if of its parent, holds of every stop: ranks fall towards N
  pub by_parents : (P : ℕ → Type 0) → P N → ((p : ℕ) → p < N → P (parent p) → P p) → (p : ℕ) → p ≤ N → P p
  by_parents P last step p h = go (suc (rank p)) p h (le_refl (suc (rank p)))
    where
      go : (m p : ℕ) → p ≤ N → rank p < m → P p
      go zero p h less = absurd (not-suc-le-zero less)
      go (suc m) p h less =
          ⊎_elim (λ (e : p ≡ N). subst P (sym e) last)
          (λ (lt : p < N). let up = chains.earlier p lt in step p lt (go m (parent p) (chains.below p lt) (omega arith)))
          (eq-or-lt_of_le h)

  -- a swap has two ends
  pub parent_other : (p : ℕ) → p < N → p ≡ parent p → ⊥
  parent_other p h e = lower_other rank (parent p) p (chains.earlier p h) (sym e)

  pub flip_turned : {f : ℕ → ℕ} {t at : ℕ} {g h : ℕ → ℕ} → Flipping N f parent rank t at g → at < N → Swapped at (parent at) g h
      → Flipping N f parent rank t (parent at) h
  unfolding follows
  flip_turned {f} {t} {at} {g} {h} walk lt swapped =
      let up = chains.earlier at lt in
      let on = chains.below at lt in
      record {
        on = on;
        freed = swapped.there ∙ walk.freed;
        taken = λ p less away. pick p less away (ℕ_discrete p at);
        ahead = λ p le less.
            swapped.others p (lower_other rank p at (omega arith)) (lower_other rank p (parent at) less) ∙ walk.ahead p le (omega arith);
        counts = λ b.
            sum_swapped (N + 1) at (parent at) (follows g b) (follows h b) (omega arith) (omega arith) (parent_other at lt)
            (rw swapped.here) (rw swapped.there) (λ p less away far. rw (swapped.others p away far))
            ∙ walk.counts b;
      }
    where
      pick : (p : ℕ) → p < N → (p ≡ parent at → ⊥) → Dec (p ≡ at) → (h p ≡ f p) ⊎ (h p ≡ f (parent p))
      pick p less away (yes e) = inr (rw e (swapped.here ∙ walk.ahead (parent at) (chains.below at lt) (chains.earlier at lt)))
      pick p less away (no m) = rw (swapped.others p m away) (walk.taken p less m)

  -- every stop's follower can be freed
  pub flipped_for : (f : ℕ → ℕ) (t : ℕ) → t ≤ N → (g : ℕ → ℕ) × Flipped N f parent t g
  flipped_for f t h = by_parents On last step t h f (flip_begun f parent rank h)
    where
      On : ℕ → Type 0
      On at = (g : ℕ → ℕ) → Flipping N f parent rank t at g → (h : ℕ → ℕ) × Flipped N f parent t h

      last : On N
      last g walk = (g, flip_ended walk)

      step : (at : ℕ) → at < N → On (parent at) → On at
      step at lt more g walk =
          more (swap at (parent at) g) (flip_turned walk lt (swap_swapped at (parent at) g (parent_other at lt)))
