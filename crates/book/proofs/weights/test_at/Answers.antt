-- `book::weights::test_at` meets its contract: where b may follow p the slack decides.
-- Assumes nothing.
use Prim.Native.Nat.{ℕ, ◌<◌, ◌≤◌}
use mathlib.Core.Bool.{true}
use mathlib.Core.Logic.{◌⊎◌, inl, inr}
use mathlib.Core.Path.{◌≡◌}
use mir.Syntax.{w64}
use mir.ValLaws.{to_z-of_z}
use Rattle.workfunction.specs.Plan.{may_follow}
use Rattle.workfunction.proofs.Plan.{may_follow_lem}
use Rattle.book.proofs.weights.test_at.Goals as goal

may : (k p b : ℕ) → (b < k) ⊎ ((k ≤ b) × (p < b)) → may_follow k p b ≡ true
may k p b (inl h) = may_follow_lem k p b (inl h)
may k p b (inr h) = may_follow_lem k p b (inr h.1)

pub returns-then-b-cranes : goal.returns-then-b-cranes
returns-then-b-cranes c = rw (may _ _ _ c.then-b-cranes.either)
    (rw (to_z-of_z w64 c.args.y c.ranges.y, to_z-of_z w64 c.args.kept c.ranges.kept) at c.test_slack.ensures)
