-- `dispatch::plan::cost` meets its contract: the sum of the legs from the stops, each of which is a u32.
-- Assumes nothing.
use Prim.Native.Nat.{ℕ, zero, suc, ◌+◌}
use mathlib.Core.List.{map}
use mathlib.Core.Path.{◌≡◌, refl, sym, ap, ◌∙◌}
use borrow.Author.Rules.{rules}
use borrow.Author.Tests.{tests}
use native.Mathlib.Nat.{zero-add, sub-zero}
use native.Mathlib.Numerals.{add-one}
use native.Mathlib.Omega.{arith}
use Rattle.std.specs.List.{range_with_len, sum}
use Rattle.std.proofs.lemmas.Iterator.{YieldsList-from_range, YieldsList-from_map}
use Rattle.std.proofs.lemmas.Iterator.Adapters.{fits_from_length, at_most_from_yields_List}
use Rattle.std.proofs.lemmas.Iterator.Consumers.{sum_from_yields_List}
use Rattle.std.proofs.lemmas.List.FromFn.{length-range_with_len, sum_by-map-range_with_len_more}
use Rattle.workfunction.specs.Lists.{sum_below}
use Rattle.workfunction.specs.Plan.{plan_cost}
use Rattle.book.specs.Book.{follower}
use Rattle.dispatch.specs.Legs.{leg_at}
use Rattle.dispatch.proofs.plan.cost.Goals as goal

-- the sum over a range is that below its end
summed : (f : ℕ → ℕ) (n : ℕ) → sum (map f (range_with_len 0 n)) ≡ sum_below n f
unfolding sum_below
summed f zero = refl
summed f (suc n) =
    ap (λ (k : ℕ). sum (map f (range_with_len 0 k))) (sym (add-one n)) ∙ sum_by-map-range_with_len_more (λ x. x) f 0 n n (zero-add n)
    ∙ ap (λ (s : ℕ). s + f n) (summed f n)

pub sum-requires-clause-fits : goal.sum-requires-clause-fits
sum-requires-clause-fits c =
    fits_from_length _ _ 273 _ (at_most_from_yields_List (YieldsList-from_range 0 c.args.stops c.args.stops c.map.ensures.source (sub-zero _))
    (rw length-range_with_len c.requires.few)) c.map.ensures.closure (omega arith) (λ x r q k. search (rules, tests))

pub returns : goal.returns
unfolding plan_cost
returns c =
    let leg : ℕ → ℕ = λ p. leg_at c.args.costs.now p (follower c.args.plan.now p) in
    sum_from_yields_List c.map.result _ c.sum.ensures.ran
    (YieldsList-from_map _ leg (YieldsList-from_range 0 c.args.stops c.args.stops c.map.ensures.source (sub-zero _)) c.map.ensures.closure (λ x r q k. search rules))
    ∙ summed leg c.args.stops
