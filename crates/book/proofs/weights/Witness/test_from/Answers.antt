-- `book::weights::Witness::test_from` meets its contract: the loop passes the calls and stands b for which the inequality of p holds.
-- Assumes nothing.
use mathlib.Core.Bool.{Bool, true, cond}
use mathlib.Core.Path.{◌≡◌, ap, ◌∙◌}
use lib.IntN.{pos, ◌-ℤ◌}
use lib.ListN.{length}
use lib.Signed.{le_z}
use mir.Syntax.{w64}
use mir.Val.{to_z, of_z}
use native.Mathlib.Numerals.{add-one}
use Rattle.base.specs.Numbers.{unless}
use Rattle.base.specs.Tests.{all_below}
use Rattle.base.proofs.Numbers.{up, holds, stops_below}
use Rattle.workfunction.specs.Plan.{may_follow}
use Rattle.book.specs.Book.{follower, weight}
use Rattle.book.specs.Weights.{cost, vouches}
use Rattle.book.proofs.Vouching.{read_back, vouch_read}
use Rattle.book.proofs.weights.Witness.test_from.Goals as goal
use Rattle.book.proofs.weights.Witness.test_from.Goals.{After-test_at}

-- the test of one b is that of the inequality
same : (c : After-test_at)
    → cond (may_follow (length c.args.self.starts.now) c.args.p c.loop-b.b)
    (le_z (to_z w64 (of_z w64 (weight c.args.self.weights.now c.loop-b.b)) -ℤ to_z w64 (of_z w64 (weight c.args.self.weights.now c.from-kept.result)))
    (pos c.leg-way.result -ℤ pos c.leg-own.result)) true
    ≡ vouches c.args.self c.args.p c.loop-b.b
same c =
    vouch_read (length c.args.self.starts.now) (follower c.args.self.plan.now) (cost c.args.self) (weight c.args.self.weights.now) c.args.p c.loop-b.b
    (read_back _ c.test_at-arg-1.given) (read_back _ c.test_at-arg-in-loop-b-1.given ∙ ap (weight c.args.self.weights.now) c.from-kept.ensures)
    c.leg-way.ensures (rw c.from-kept.ensures at c.leg-own.ensures)

pub returns-in_err-test_at : goal.returns-in_err-test_at
returns-in_err-test_at c = up _ _ _ c.from_residual.ensures.1
    (stops_below _ (length c.args.self.plan.now) c.loop-b.b 10 (vouches c.args.self c.args.p)
    (c.in_err-test_at.ensures ∙ ap (λ (r : Bool). unless r 10) (same (goal.at.returns-in_err-test_at c).After-test_at)) c.loop-b-test.true)

pub loop-b-preserved : goal.loop-b-preserved
unfolding all_below
loop-b-preserved c = rw (add-one, c.loop-b.invariant) (holds _ 9 (c.in_ok-test_at.ensures ∙ ap (λ (r : Bool). unless r 10) (same (goal.at.loop-b-preserved c).After-test_at)))
