-- `dispatch::choice::Ends::choose` meets its contract: the first end comes no later than any other by its sum, its way and its number,
-- and so it is the one preferred. Assumes nothing.
use Prim.Native.Nat.{ℕ, ◌<◌}
use mathlib.Core.List.{[], ◌∷◌}
use mathlib.Core.Path.{◌≡◌, ◌∙◌}
use native.Mathlib.Omega.{arith}
use Rattle.std.proofs.Common.{Some, None}
use Rattle.std.specs.declared.option.Option.{Option}
use Rattle.std.specs.Option.{MatchOption, unwrap_or}
use Rattle.workfunction.specs.Choice.{preferred}
use Rattle.workfunction.proofs.Keys.{no_later_by_number, no_later_by, preferred_only}
use Rattle.dispatch.specs.Insertion.{Foremost}
use Rattle.dispatch.proofs.choice.Ends.choose.Goals as goal

foremost_preferred : (k : ℕ) (sum way : ℕ → ℕ) (o : Option ℕ) → 0 < k → MatchOption o (k ≡ 0) (λ e. Foremost k sum way e)
    → unwrap_or o 0 ≡ preferred (sum ∷ way ∷ []) k
foremost_preferred k sum way None some none = absurd (omega arith)
foremost_preferred k sum way (Some e) some first =
    preferred_only (sum ∷ way ∷ []) k some e first.below
    (λ t lt. no_later_by sum (way ∷ []) e t (first.sums t lt)
    (λ same. no_later_by way [] e t (first.ways t lt same) (λ alike. no_later_by_number e t (first.number t lt same alike))))

pub returns : goal.returns
returns c = c.unwrap_or.ensures ∙ foremost_preferred c.args.cranes _ _ c.first.result c.requires.crane c.first.ensures
