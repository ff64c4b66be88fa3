-- `dispatch::weights::renew` meets its contract: each follower follows one stop, so that no weight is renewed twice.
-- Assumes nothing.
use Prim.Native.Nat.{ℕ, ◌+◌, ◌<◌, ◌≤◌}
use mathlib.Core.List.{List}
use mathlib.Core.Path.{◌≡◌, refl, ◌∙◌}
use lib.IntN.{ℤ, pos, neg_ℤ, ◌-ℤ◌}
use lib.ListN.{length, set, length-set}
use lib.Seq.{get_or-set_same, get_or-set_other}
use native.Mathlib.Omega.{arith}
use Rattle.base.proofs.Tests.{one_more}
use Rattle.book.specs.Book.{follower, weight}
use Rattle.dispatch.specs.Legs.{leg_at}
use Rattle.dispatch.specs.Search.{at, net_base, net_of, Matched, Reweighed}
use Rattle.dispatch.proofs.weights.renew.Given as goal

module _ (new : ℕ) (f net : ℕ → ℕ) (weights₀ : List ℤ) where
  -- the weights of the followers of the stops below p are renewed
  pub record Renewing (weights : List ℤ) (p : ℕ) : Type 0 where
    pub weighed : length weights ≡ length weights₀
    pub renewed : (q : ℕ) → q < p → weight weights (f q) ≡ neg_ℤ (pos (net q) -ℤ pos net_base)
    pub past : (b : ℕ) → new < b → weight weights b ≡ weight weights₀ b

  pub renew_begun : Renewing weights₀ 0
  renew_begun = record { weighed = refl; renewed = λ q lt. absurd (omega arith); past = λ b lt. refl }

  module _ (long : new < length weights₀) {weights : List ℤ} {p : ℕ} (r : Renewing weights p) where
    pub renew_turned : Matched new f → p ≤ new → {z : ℤ} → z ≡ neg_ℤ (pos (net p) -ℤ pos net_base) → Renewing (set weights (f p) z) (p + 1)
    renew_turned matched le {z} e =
        let on = matched.below p le in
        let kept = r.weighed in
        record {
          weighed = length-set weights (f p) z ∙ r.weighed;
          renewed = one_more (λ q. weight (set weights (f p) z) (f q) ≡ neg_ℤ (pos (net q) -ℤ pos net_base)) p
              (get_or-set_same weights (f p) z (pos 0) (omega arith) ∙ e)
              (λ q lt. get_or-set_other weights (f p) (f q) z (pos 0) (λ same. let m = matched.only q p (omega arith) le same in omega arith) ∙ r.renewed q lt);
          past = λ b lt. get_or-set_other weights (f p) b z (pos 0) (λ same. omega arith) ∙ r.past b lt;
        }

    pub renew_ended : new < p → Reweighed new f net (weight weights₀) (weight weights)
    renew_ended lt = record { renewed = λ q h. r.renewed q (omega arith); past = r.past }

abbrev pub invariant-loop-p : goal.invariant-loop-p
invariant-loop-p l = Renewing l.new (follower l.plan) (net_of (follower l.plan) (leg_at l.costs) (at l.totals)) l.initial.weights l.weights l.p
