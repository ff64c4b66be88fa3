-- `dispatch::insert::insert` meets its contract: the plan with the new call followed by itself is one that the search can begin from,
-- and each part finds what it requires in what the parts before it ensure. Assumes nothing.
use Prim.Native.Nat.{ℕ, ◌<◌}
use mathlib.Core.List.{List}
use mathlib.Core.Path.{◌≡◌, ◌∙◌}
use borrow.Author.Rules.{rules}
use lib.IntN.{ℤ}
use lib.ListN.{length, set}
use lib.Seq.{get_or-set_other}
use native.Mathlib.Nat.{le_of_lt}
use native.Mathlib.Omega.{arith}
use Rattle.std.specs.Prelude.{Option}
use Rattle.dayfile.specs.Day.{most_cranes}
use Rattle.workfunction.proofs.Keys.{preferred_below}
use Rattle.workfunction.proofs.Plan.{Plan}
use Rattle.book.specs.Book.{follower, weight}
use Rattle.dispatch.specs.Insertion.{least_end, picked, Found, CallInserted}
use Rattle.dispatch.specs.Legs.{leg_at}
use Rattle.dispatch.specs.Search.{at, net_of, Matched, PlanFlipped, Reweighed}
use Rattle.dispatch.proofs.Insertion.{matched_plan}
use Rattle.dispatch.proofs.insert.Laws.{taken_self, taken_plan, ends_low}
use Rattle.dispatch.proofs.insert.insert.Goals as goal
use Rattle.dispatch.proofs.insert.insert.Goals.{After-end-end, Start}

-- the call is taken in: `taken` is the plan in which it is followed by itself
call_inserted : {k N s : ℕ} {pick : Option ℕ} {costs plan taken plan' parents : List ℕ} {weights weights' : List ℤ} {total rank before net_end : ℕ → ℕ}
    → taken ≡ set plan N N → Found k N (follower taken) (leg_at costs) total (at parents) rank before net_end → s < k
    → s ≡ picked pick (least_end k N net_end (leg_at costs)) → PlanFlipped N (before s) parents taken plan'
    → Reweighed N (follower taken) (net_of (follower taken) (leg_at costs) total) (weight weights) (weight weights')
    → CallInserted k N pick costs plan weights s plan' weights'
call_inserted {N = N} {plan = plan} {parents = parents} {total = total} {rank = rank} {before = before} {net_end = net_end} e found end chosen flipped renewed =
    record {
      taken = record {
        total = total;
        parent = at parents;
        rank = rank;
        before = before;
        net_end = net_end;
        found = rw e at found;
        end = end;
        flipped = rw e at flipped.flipped;
        reweighed = rw e at renewed;
      };
      chosen = chosen;
      unmoved = record {
        followers = λ p lt. flipped.past p lt ∙ rw e (get_or-set_other plan N p N 0 (λ same. omega arith));
        weighed = renewed.past;
      };
    }

-- ---- what is known there
-- the plan is long enough
long : (c : Start) → c.args.new < length c.args.plan.now
long c = omega (arith, c.requires.witnessed.few, c.requires.plan_long)

-- the plan with the call followed by itself
plan_of : (c : Start) → Plan c.args.cranes c.args.new (follower (set c.args.plan.now c.args.new c.args.new))
plan_of c = taken_plan c.args.cranes c.args.new c.args.plan.now c.requires.witnessed.certified.planned

matched : (c : Start) → Matched c.args.new (follower (set c.args.plan.now c.args.new c.args.new))
matched c = matched_plan (plan_of c) (taken_self c.args.new c.args.plan.now (long c))

-- the end picked is one of the ends
end_below : (c : After-end-end) → c.end-end.result < c.args.cranes
end_below c =
    rw c.end-end.ensures (c.requires.ends _ (preferred_below _ c.args.cranes c.requires.crane))

end_within : (c : After-end-end) → c.end-end.result < most_cranes
end_within c = omega (arith, end_below c, c.requires.cranes)

pub find-ends-requires : goal.find-ends-requires
find-ends-requires c = record {
  cranes = c.requires.cranes;
  stops = c.requires.stops;
  sized = record { planned = long (goal.at.find-ends-requires c).Start; costed = c.requires.costed };
  witnessed = c.requires.witnessed;
}

pub end-end-requires : goal.end-end-requires
end-end-requires c = record {
  crane = c.requires.crane;
  cranes = c.requires.cranes;
  few = c.requires.witnessed.few;
  costed = c.requires.costed;
  low = ends_low c.find-ends.ensures.1;
}

pub renew-requires : goal.renew-requires
renew-requires c = record {
  few = c.requires.witnessed.few;
  planned = omega (arith, long (goal.at.renew-requires c).Start, c.find-ends.auto.plan);
  totals_long = search rules;
  weighed = omega (arith, c.requires.witnessed.few, c.requires.weights_long);
  costed = c.requires.costed;
  matched = rw c.find-ends.ensures.0 (matched (goal.at.renew-requires c).Start);
  totalled = c.find-ends.ensures.1.searched.totals;
}

pub offset_bounds-ends-end : goal.offset_bounds-ends-end
offset_bounds-ends-end c = omega (arith, end_within (goal.at.offset_bounds-ends-end c).After-end-end)

pub bounds-ends-end : goal.bounds-ends-end
bounds-ends-end c = end_within (goal.at.bounds-ends-end c).After-end-end

pub flip-requires : goal.flip-requires
flip-requires c = record {
  few = c.requires.witnessed.few;
  stop = le_of_lt (c.find-ends.ensures.1.freed.stop c.end-end.result (end_below (goal.at.flip-requires c).After-end-end));
  planned = omega (arith, long (goal.at.flip-requires c).Start, c.find-ends.auto.plan);
  chains = c.find-ends.ensures.1.searched.nets.chains;
}

pub returns : goal.returns
returns c = call_inserted c.find-ends.ensures.0 c.find-ends.ensures.1 (end_below (goal.at.returns c).After-end-end) c.end-end.ensures c.flip.ensures c.renew.ensures
