-- `dispatch::search::Search::relax` meets its contract: the loop has done its work on the stops below p. Assumes nothing.
use Prim.Native.Nat.{ℕ, ◌+◌, ◌<◌, ◌≤◌}
use mathlib.Core.List.{List}
use mathlib.Core.Logic.{◌⊎◌, inl, inr}
use mathlib.Core.Path.{◌≡◌, refl, ◌∙◌}
use lib.ListN.{length, set, length-set}
use lib.Seq.{get_or-set_same, get_or-set_other}
use native.Mathlib.Decide.{ℕ_discrete}
use native.Mathlib.Nat.{le_antisymm}
use native.Mathlib.Omega.{arith}
use Rattle.dispatch.specs.Search.{at, Unbettered, Bettered, Relaxed}
use Rattle.dispatch.proofs.search.Search.relax.Given as goal

module _ (row : List ℕ) (net from : ℕ) (totals₀ parents₀ : List ℕ) where
  pub record Relaxing (totals parents : List ℕ) (p : ℕ) : Type 0 where
    pub most : p ≤ length row
    pub totalled : length totals ≡ length totals₀
    pub parented : length parents ≡ length parents₀
    pub relaxed : Relaxed p net from (at row) (at totals₀) (at parents₀) (at totals) (at parents)

  pub relax_begun : Relaxing totals₀ parents₀ 0
  relax_begun = record {
    most = omega arith;
    totalled = refl;
    parented = refl;
    relaxed = record { each = λ v. inl (record { same = refl; parented = refl; least = λ lt. absurd (omega arith) }) };
  }

  pub relax_ended : {totals parents : List ℕ} {p : ℕ} → Relaxing totals parents p → length row ≤ p
      → Relaxed (length row) net from (at row) (at totals₀) (at parents₀) (at totals) (at parents)
  relax_ended r le = rw (le_antisymm le r.most) r.relaxed

  module _ {totals parents : List ℕ} {p : ℕ} (r : Relaxing totals parents p) (lt : p < length row) where
    abbrev pub Way : (l : ℕ) (ts ps : List ℕ) → ℕ → Type 0
    Way l ts ps v =
        Unbettered l net (at row) (at totals₀) (at parents₀) (at ts) (at ps) v ⊎ Bettered l net from (at row) (at totals₀) (at ts) (at ps) v

    -- p itself is as it was
    pub untouched : Way p totals parents p → at totals p ≡ at totals₀ p
    untouched (inl k) = k.same
    untouched (inr b) = absurd (let l = b.below in omega arith)

    pub relax_kept : at totals p ≤ net + at row p → Relaxing totals parents (p + 1)
    relax_kept le = record {
      most = omega arith;
      totalled = r.totalled;
      parented = r.parented;
      relaxed = record { each = λ v. go v (r.relaxed.each v) (ℕ_discrete v p) };
    }
      where
        go : (v : ℕ) → Way p totals parents v → Dec (v ≡ p) → Way (p + 1) totals parents v
        go v (inl k) (yes e) =
            inl (record { same = k.same; parented = k.parented; least = λ l. let u = k.same in rw e (let w = untouched (r.relaxed.each p) in omega arith) })
        go v (inl k) (no m) = inl (record { same = k.same; parented = k.parented; least = λ l. k.least (omega arith) })
        go v (inr b) _ = inr (record { below = let l = b.below in omega arith; less = b.less; taken = b.taken; parented = b.parented })

    pub relax_taken : length row ≤ length totals₀ → length row ≤ length parents₀ → net + at row p < at totals p
        → Relaxing (set totals p (net + at row p)) (set parents p from) (p + 1)
    relax_taken long-t long-p less = record {
      most = omega arith;
      totalled = simp length-set r.totalled;
      parented = simp length-set r.parented;
      relaxed = record { each = λ v. go v (r.relaxed.each v) (ℕ_discrete v p) };
    }
      where
        go : (v : ℕ) → Way p totals parents v → Dec (v ≡ p) → Way (p + 1) (set totals p (net + at row p)) (set parents p from) v
        go v w (yes e) = rw e (inr (record {
          below = omega arith;
          less = let u = untouched (r.relaxed.each p) in omega arith;
          taken = let l = r.totalled in get_or-set_same totals p (net + at row p) 0 (omega arith);
          parented = let l = r.parented in get_or-set_same parents p from 0 (omega arith);
        }))
        go v (inl k) (no m) = inl (record {
          same = get_or-set_other totals p v (net + at row p) 0 m ∙ k.same;
          parented = get_or-set_other parents p v from 0 m ∙ k.parented;
          least = λ l. k.least (omega arith);
        })
        go v (inr b) (no m) = inr (record {
          below = let l = b.below in omega arith;
          less = b.less;
          taken = get_or-set_other totals p v (net + at row p) 0 m ∙ b.taken;
          parented = get_or-set_other parents p v from 0 m ∙ b.parented;
        })

abbrev pub invariant-loop-p : goal.invariant-loop-p
invariant-loop-p l = (l.self.ranks ≡ l.initial.self.ranks) × Relaxing l.row l.net l.from l.initial.self.totals l.initial.self.parents l.self.totals l.self.parents l.p
