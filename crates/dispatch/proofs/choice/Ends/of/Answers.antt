-- `dispatch::choice::Ends::of` meets its contract: the loop has entered the stops below p, each at its follower where that is an end.
-- No end is entered twice, since it follows one stop, and every end is, since it follows a stop. Assumes nothing.
use lib.ListN.{length-replicate}
use Rattle.workfunction.proofs.Plan.{Plan, plan_facts}
use Rattle.book.specs.Book.{follower}
use Rattle.dispatch.proofs.choice.Ends.of.Invariants.{free_kept, free_taken, free_ended}
use Rattle.dispatch.proofs.choice.Ends.of.Goals as goal
use Rattle.dispatch.proofs.choice.Ends.of.Goals.{Start, else-b-cranes, then-b-cranes}

-- the plan, by its facts
planned : (c : Start) → Plan c.args.cranes c.args.new (follower c.args.plan.now)
planned c = plan_facts _ _ _ c.requires.planned

pub loop-p-preserved : goal.loop-p-preserved
loop-p-preserved c = elim c.if-b-cranes.branch [
  | then-b-cranes w ↦ rw (w.nets-is, w.before-is) (free_taken _ _ _ _ _ _ c.loop-p.invariant (planned (goal.at.loop-p-preserved c).Start) c.loop-p-test.true w.if-b-cranes.true (rw length-replicate c.requires.cranes) (rw length-replicate c.requires.cranes)
      (rw w.cost.ensures))
  | else-b-cranes w ↦ rw (w.nets-is, w.before-is) (free_kept _ _ _ _ _ _ c.loop-p.invariant c.loop-p-test.true w.if-b-cranes.false)
]

pub returns : goal.returns
returns c = free_ended _ _ _ _ _ _ c.loop-p.invariant (planned (goal.at.returns c).Start) c.requires.stops c.loop-p-test.false
