-- `dispatch::insert::find` meets its contract: with the new call followed by itself for the moment, the plan is still a plan with
-- weights that vouch for it. Assumes nothing.
use borrow.Author.Rules.{rules}
use lib.ListN.{length-set}
use Rattle.dispatch.proofs.insert.Laws.{taken_self, taken_witnessed}
use Rattle.dispatch.proofs.insert.find.Goals as goal

pub run-requires : goal.run-requires
run-requires c = record {
  self = taken_self c.args.new c.args.plan.now c.requires.sized.planned;
  sized = record { planned = rw length-set c.requires.sized.planned; costed = c.requires.sized.costed };
  witnessed = taken_witnessed c.requires.witnessed;
}

pub of-requires : goal.of-requires
of-requires c = let w = taken_witnessed c.requires.witnessed in
    record {
      few = w.few;
      cranes = c.requires.cranes;
      stops = c.requires.stops;
      plan_long = rw length-set c.requires.sized.planned;
      totals_long = search rules;
      costed = c.requires.sized.costed;
      planned = w.certified.planned;
      totalled = c.run.ensures.totals;
    }
