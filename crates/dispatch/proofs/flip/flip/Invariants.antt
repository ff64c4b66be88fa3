-- `dispatch::flip::flip` meets its contract: the loop walks along the parents and swaps, to ever lower ranks, until it comes to
-- the new call, which alone has the rank 0. Assumes nothing.
use Prim.Native.Nat.{ℕ, ◌<◌, ◌≤◌}
use mathlib.Core.List.{List}
use mathlib.Core.Logic.{⊎_elim}
use mathlib.Core.Path.{◌≡◌, refl, subst, ◌∙◌}
use lib.ListN.{length, set, length-set}
use lib.Seq.{get_or-set_other}
use native.Mathlib.Nat.{eq-or-lt_of_le}
use native.Mathlib.Omega.{arith}
use Rattle.workfunction.specs.NetCost.{Chains, Flipped}
use Rattle.workfunction.proofs.Flip.{Flipping, flip_begun, flip_turned, flip_ended, parent_other, set_swapped}
use Rattle.dispatch.specs.Search.{at}
use Rattle.dispatch.proofs.flip.flip.Given as goal

module _ (new stop : ℕ) (parents ranks plan₀ : List ℕ) where
  pub record Walking (plan : List ℕ) (here : ℕ) : Type 0 where
    pub planned : length plan ≡ length plan₀
    pub past : (p : ℕ) → new < p → at plan p ≡ at plan₀ p
    pub walk : Flipping new (at plan₀) (at parents) (at ranks) stop here (at plan)

  pub walk_begun : stop ≤ new → Walking plan₀ stop
  walk_begun h = record { planned = refl; past = λ p l. refl; walk = flip_begun (at plan₀) (at parents) (at ranks) h }

  module _ (chains : Chains new (at parents) (at ranks)) {plan : List ℕ} {here : ℕ} (w : Walking plan here) where
    -- a stop with a rank above 0 is below the new call, and so on its way
    pub walk_on : (at ranks here ≡ 0 → ⊥) → here < new
    walk_on m =
        ⊎_elim (λ (e : here ≡ new). absurd (m (rw e chains.first))) (λ (lt : here < new). lt) (eq-or-lt_of_le w.walk.on)

    pub walk_new : at ranks here ≡ 0 → here ≡ new
    walk_new e =
        ⊎_elim (λ (same : here ≡ new). same) (λ (lt : here < new). absurd (let up = chains.earlier here lt in omega arith))
        (eq-or-lt_of_le w.walk.on)

    pub walk_turned : here < new → new < length plan₀
        → Walking (set (set plan here (at plan (at parents here))) (at parents here) (at plan here)) (at parents here)
    walk_turned lt long =
        let up = chains.below here lt in
        let same = w.planned in
        let once : List ℕ = set plan here (at plan (at parents here)) in
        record {
          planned = length-set once (at parents here) (at plan here) ∙ length-set plan here (at plan (at parents here)) ∙ same;
          past = λ p l.
              get_or-set_other once (at parents here) p (at plan here) 0 (λ e. omega arith)
              ∙ get_or-set_other plan here p (at plan (at parents here)) 0 (λ e. omega arith)
              ∙ w.past p l;
          walk = flip_turned chains w.walk lt (set_swapped plan here (at parents here) (omega arith) (omega arith) (parent_other chains here lt));
        }

    pub walk_ended : at ranks here ≡ 0 → Flipped new (at plan₀) (at parents) stop (at plan)
    walk_ended e =
        flip_ended (subst (λ (v : ℕ). Flipping new (at plan₀) (at parents) (at ranks) stop v (at plan)) (walk_new e) w.walk)

abbrev pub invariant-loop-here : goal.invariant-loop-here
invariant-loop-here l = Walking l.new l.stop l.search.parents l.search.ranks l.initial.plan l.plan l.here

abbrev pub decreases-loop-here : goal.decreases-loop-here
decreases-loop-here l = at l.search.ranks l.here
