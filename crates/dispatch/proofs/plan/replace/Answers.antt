-- `dispatch::plan::replace` meets its contract: the loop fills the front from its first entry on, and reads what it has not filled yet.
-- Assumes nothing.
use Prim.Native.Nat.{ℕ, ◌≤◌}
use mathlib.Core.List.{List, ◌++◌, append-nil}
use mathlib.Core.Path.{◌≡◌, ap, ◌∙◌}
use lib.ListN.{length, take, drop}
use lib.Seq.{length-take-le, get_or-take, drop-length}
use native.Mathlib.Nat.{le_refl}
use Rattle.base.specs.Lists.{up_to}
use Rattle.base.proofs.Lists.{up_to-same, Filled, fill_begun, fill_turned, fill_ended, filled_ahead}
use Rattle.book.specs.Book.{follower}
use Rattle.dispatch.specs.Insertion.{instead}
use Rattle.dispatch.proofs.plan.replace.Goals as goal

-- the front once it is filled
replaced : (old new count : ℕ) (list now : List ℕ) (i : ℕ) → count ≤ length list
    → Filled (λ j. instead old new (follower (take count list) j)) (take count list) (length (take count list)) now i → length (take count list) ≤ i
    → now ≡ up_to count (λ p. instead old new (follower list p))
replaced old new count list now i fits f le =
    let n = length-take-le count list fits in
    fill_ended (λ j. instead old new (follower (take count list) j)) (take count list) (length (take count list)) now i f le
    ∙ rw (drop-length, append-nil, n) (up_to-same count _ _ (λ p h. ap (instead old new) (get_or-take count list p 0 h)))

pub loop-b-init : goal.loop-b-init
loop-b-init c = fill_begun _ _ _

pub loop-b-preserved : goal.loop-b-preserved
loop-b-preserved c =
    fill_turned _ _ _ _ _ _ (le_refl _) c.loop-b.invariant c.loop-b-test.true
    (c.instead.ensures ∙ ap (instead _ _) (filled_ahead _ c.loop-b.invariant 0 _ (le_refl _)))

pub returns : goal.returns
returns c = ap (λ (l : List ℕ). l ++ drop c.args.count c.args.list.now) (replaced _ _ _ _ _ _ c.requires c.loop-b.invariant c.loop-b-test.false)
