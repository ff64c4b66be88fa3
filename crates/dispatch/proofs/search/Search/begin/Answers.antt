-- `dispatch::search::Search::begin` meets its contract: the loop fills the lists from the front, and then the new call is settled.
-- Assumes nothing.
use Prim.Native.Nat.{ℕ, ◌+◌, ◌<◌}
use mathlib.Core.List.{List}
use mathlib.Core.Path.{ap, refl, ◌∙◌}
use lib.ListN.{length, set}
use lib.Seq.{get_or-set_same, get_or-set_other}
use native.Mathlib.Omega.{arith}
use Rattle.base.proofs.Lists.{length-up_to, get_or-up_to, fill_begun, fill_turned, filled_at}
use Rattle.dispatch.specs.Legs.{leg_at}
use Rattle.dispatch.specs.Search.{at, Begun}
use Rattle.dispatch.proofs.search.Search.begin.Invariants.{Beginning}
use Rattle.dispatch.proofs.search.Search.begin.Goals as goal

begun_by : {new : ℕ} {row : ℕ → ℕ} {totals₀ parents₀ ranks₀ totals parents ranks : List ℕ} {p : ℕ}
    → Beginning new row totals₀ parents₀ ranks₀ totals parents ranks p → new < length ranks₀ → new < p
    → Begun new row (at totals) (at parents) (at (set ranks new 0))
begun_by {new} {ranks = ranks} s long lt = record {
  totals = λ v le. filled_at _ s.totalled 0 v (omega arith);
  parents = λ v le. filled_at _ s.parented 0 v (omega arith);
  unsettled = λ v l. get_or-set_other ranks new v 0 0 (omega arith) ∙ filled_at _ s.ranked 0 v (omega arith);
  source = let h = s.ranked.long in get_or-set_same ranks new 0 0 (omega arith);
}

pub loop-p-init : goal.loop-p-init
loop-p-init c = record { totalled = fill_begun _ _ _; parented = fill_begun _ _ _; ranked = fill_begun _ _ _ }

pub bounds-self-p : goal.bounds-self-p
bounds-self-p c = let long = simp length-up_to at (ap length c.row_to-leg-items.ensures) in omega (arith, c.requires.0)

pub bounds-self-p-in-loop-p : goal.bounds-self-p-in-loop-p
bounds-self-p-in-loop-p c = let long = simp length-up_to at (ap length c.row_to-leg-items.ensures) in omega (arith, c.requires.0)

pub bounds-self-p-in-loop-p-2 : goal.bounds-self-p-in-loop-p-2
bounds-self-p-in-loop-p-2 c = let long = simp length-up_to at (ap length c.row_to-leg-items.ensures) in omega (arith, c.requires.0)

pub loop-p-preserved : goal.loop-p-preserved
loop-p-preserved c = let long = simp length-up_to at (ap length c.row_to-leg-items.ensures) in
    let lt : c.loop-p.p < c.args.new + 1 = omega arith in
    record {
      totalled = fill_turned _ _ _ _ _ _ (omega (arith, c.requires.0)) c.loop-p.invariant.totalled lt
          (rw (c.row_to-leg-items.ensures, get_or-up_to (c.args.new + 1) (λ v. leg_at c.args.costs.now v c.args.new) c.loop-p.p 0 lt));
      parented = fill_turned _ _ _ _ _ _ (omega (arith, c.requires.0)) c.loop-p.invariant.parented lt refl;
      ranked = fill_turned _ _ _ _ _ _ (omega (arith, c.requires.0)) c.loop-p.invariant.ranked lt refl;
    }

pub returns : goal.returns
returns c = let long = simp length-up_to at (ap length c.row_to-leg-items.ensures) in begun_by c.loop-p.invariant (omega (arith, c.requires.0)) (omega arith)
