-- The plan into which the call N is taken: N is followed by itself for the moment, and below N the plan is as it was, with weights
-- that vouch for it; and how large the net costs of its ends are. Assumes nothing.
use Prim.Native.Nat.{ℕ, ◌+◌, ◌<◌, ◌≤◌}
use mathlib.Core.Bool.{true}
use mathlib.Core.List.{List}
use mathlib.Core.Path.{◌≡◌, refl, sym, ◌∙◌}
use lib.IntN.{ℤ}
use lib.ListN.{length, set}
use lib.Seq.{get_or-set_same, get_or-set_other}
use native.Mathlib.Nat.{le_of_lt}
use native.Mathlib.Omega.{arith}
use Rattle.road.specs.Table.{most_metres}
use Rattle.workfunction.specs.Plan.{plan_rule}
use Rattle.workfunction.proofs.Plan.{Plan, plan_facts}
use Rattle.book.specs.Book.{follower, weight}
use Rattle.dispatch.specs.Insertion.{Found}
use Rattle.dispatch.specs.Legs.{leg_at}
use Rattle.dispatch.specs.Search.{net_base, Witnessed}
use Rattle.book.proofs.Ignored.{same_plan}
use Rattle.book.proofs.Vouching.{same_vouching}

pub taken_self : (N : ℕ) (plan : List ℕ) → N < length plan → follower (set plan N N) N ≡ N
taken_self N plan long = get_or-set_same plan N N 0 long

module _ (k N : ℕ) (plan : List ℕ) (planned : plan_rule k N (follower plan) ≡ true) where
  kept : (p : ℕ) → p < N → follower plan p ≡ follower (set plan N N) p
  kept p lt = sym (get_or-set_other plan N p N 0 (λ e. omega arith))

  rule : plan_rule k N (follower (set plan N N)) ≡ true
  rule = sym (same_plan k N _ _ kept) ∙ planned

  pub taken_plan : Plan k N (follower (set plan N N))
  taken_plan = plan_facts k N _ rule

pub taken_witnessed : {k N : ℕ} {plan : List ℕ} {weights : List ℤ} {costs : List ℕ} → Witnessed k N plan weights costs
    → Witnessed k N (set plan N N) weights costs
taken_witnessed {k} {N} {plan} {weights} {costs} w =
    let below = (plan_facts k N (follower plan) w.certified.planned).below in
    let same = kept k N plan w.certified.planned in
    record {
      few = w.few;
      weighed = w.weighed;
      certified = record {
        planned = rule k N plan w.certified.planned;
        ranged = w.certified.ranged;
        vouched =
            sym (same_vouching k N (follower plan) _ (leg_at costs) _ (weight weights) _ below same (λ b l. refl) (λ p b h l. refl))
            ∙ w.certified.vouched;
      };
      short = w.short;
    }

-- no net cost is above the total of its stop
pub ends_low : {k N : ℕ} {f : ℕ → ℕ} {c : ℕ → ℕ → ℕ} {total parent rank before net_end : ℕ → ℕ} → Found k N f c total parent rank before net_end
    → (e : ℕ) → e < k → net_end e ≤ net_base + most_metres
ends_low {before = before} found e lt =
    let most = found.searched.totals.most (before e) (le_of_lt (found.freed.stop e lt)) in
    rw (found.freed.costs e lt) (omega arith)
