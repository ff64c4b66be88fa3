-- `dispatch::lists::copy` meets its contract: the front is copied, and the rest is as it was. Assumes nothing.
use Prim.Native.Nat.{ℕ, ◌≤◌}
use mathlib.Core.List.{List, ◌++◌}
use mathlib.Core.Path.{◌≡◌}
use lib.ListN.{length, get_or, take, drop, replicate}
use Rattle.base.specs.Lists.{padded}
use Rattle.base.proofs.Lists.{take-up_to, drop-replicate}
use Rattle.dispatch.specs.Legs.{plan_room}
use Rattle.dispatch.proofs.lists.copy.Goals as goal

copied : {A : Type 0} (m n : ℕ) (from front : List A) (z : A) → n ≤ length from → front ≡ take n from
    → front ++ drop n (replicate m z) ≡ padded m n (λ i. get_or from i z) z
copied m n from front z fits e = rw (e, take-up_to n from z fits, drop-replicate n m z)

pub returns : goal.returns
returns g c = copied plan_room _ _ _ _ c.requires.1 c.copy_from_slice.ensures.after
