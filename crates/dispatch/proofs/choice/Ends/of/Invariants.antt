-- `dispatch::choice::Ends::of` meets its contract: the loop has entered the stops below p, each at its follower where that is an end.
-- No end is entered twice, since it follows one stop, and every end is, since it follows a stop. Assumes nothing.
use Prim.Native.Nat.{ℕ, ◌+◌, ◌<◌, ◌≤◌}
use mathlib.Core.List.{List}
use mathlib.Core.Path.{◌≡◌, refl, ◌∙◌}
use lib.ListN.{length, set, length-set, replicate}
use lib.Seq.{get_or-set_same, get_or-set_other}
use native.Mathlib.Omega.{arith}
use Rattle.base.proofs.Tests.{one_more}
use Rattle.dayfile.specs.Day.{most_cranes}
use Rattle.workfunction.proofs.Plan.{Plan, stop_before, stop_only}
use Rattle.book.specs.Book.{follower}
use Rattle.dispatch.specs.Legs.{leg_at}
use Rattle.dispatch.specs.Search.{at, net_of}
use Rattle.dispatch.specs.Insertion.{Freed}
use Rattle.dispatch.proofs.choice.Ends.of.Given as goal

module _ (k N : ℕ) (f net : ℕ → ℕ) (nets₀ before₀ : List ℕ) where
  pub record Freeing (nets before : List ℕ) (p : ℕ) : Type 0 where
    pub most : p ≤ N
    pub netted : length nets ≡ length nets₀
    pub entered : length before ≡ length before₀
    pub stop : (q : ℕ) → q < p → f q < k → at before (f q) ≡ q
    pub cost : (q : ℕ) → q < p → f q < k → at nets (f q) ≡ net q

  pub free_begun : Freeing nets₀ before₀ 0
  free_begun = record {
    most = omega arith;
    netted = refl;
    entered = refl;
    stop = λ q lt end. absurd (omega arith);
    cost = λ q lt end. absurd (omega arith);
  }

  module _ {nets before : List ℕ} {p : ℕ} (s : Freeing nets before p) where
    -- the follower of p is no end
    pub free_kept : p < N → k ≤ f p → Freeing nets before (p + 1)
    free_kept lt le = record {
      most = omega arith;
      netted = s.netted;
      entered = s.entered;
      stop = one_more (λ q. f q < k → at before (f q) ≡ q) p (λ end. absurd (omega arith)) s.stop;
      cost = one_more (λ q. f q < k → at nets (f q) ≡ net q) p (λ end. absurd (omega arith)) s.cost;
    }

    module _ (plan : Plan k N f) where
      -- it is one, which no stop before p has entered
      pub free_taken : {v : ℕ} → p < N → f p < k → k ≤ length nets₀ → k ≤ length before₀ → v ≡ net p
          → Freeing (set nets (f p) v) (set before (f p) p) (p + 1)
      free_taken {v} lt here long-n long-b e =
          let netted = s.netted in
          let entered = s.entered in
          record {
            most = omega arith;
            netted = simp length-set s.netted;
            entered = simp length-set s.entered;
            stop = one_more (λ q. f q < k → at (set before (f p) p) (f q) ≡ q) p (λ end. get_or-set_same before (f p) p 0 (omega arith))
                (λ q l end. get_or-set_other before (f p) (f q) p 0 (other q l) ∙ s.stop q l end);
            cost = one_more (λ q. f q < k → at (set nets (f p) v) (f q) ≡ net q) p (λ end. get_or-set_same nets (f p) v 0 (omega arith) ∙ e)
                (λ q l end. get_or-set_other nets (f p) (f q) v 0 (other q l) ∙ s.cost q l end);
          }
        where
          other : (q : ℕ) → q < p → f q ≡ f p → ⊥
          other q l same = let h = stop_only plan q p (omega arith) lt same in omega arith

      -- each end follows a stop, which is entered at it
      pub free_ended : k ≤ N → N ≤ p → Freed k N f net (at before) (at nets)
      free_ended le done = record {
        stop = λ e lt. let h = found e lt in rw h.3 h.1;
        follows = λ e lt. let h = found e lt in rw h.3 h.2;
        costs = λ e lt. let h = found e lt in rw h.3 h.4;
      }
        where
          found : (e : ℕ) → e < k → (q : ℕ) × (q < N) × (f q ≡ e) × (at before e ≡ q) × (at nets e ≡ net q)
          found e lt =
              let b = stop_before plan e (omega arith) in
              let q = b.0 in
              let l = b.1 in
              let end : f q < k = rw b.2 lt in
              (q, l, b.2, rw b.2 at (s.stop q (omega arith) end), rw b.2 at (s.cost q (omega arith) end))

abbrev pub invariant-loop-p : goal.invariant-loop-p
invariant-loop-p l = Freeing l.cranes l.new (follower l.plan) (net_of (follower l.plan) (leg_at l.costs) (at l.totals)) (replicate most_cranes 0) (replicate most_cranes 0) l.nets l.before l.p
