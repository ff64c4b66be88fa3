-- `dispatch::day::served` meets its contract: the calls are served from the fresh book, the floor is found from the plan to the last stands, and
-- the way home is theirs. Assumes nothing.
use Prim.Native.Nat.{◌≤◌}
use mathlib.Core.Path.{sym, ap, ◌∙◌}
use borrow.Author.Rules.{rules}
use lib.ListN.{length}
use native.Mathlib.Omega.{arith}
use Rattle.road.specs.Table.{Table}
use Rattle.dayfile.specs.declared.Day.{Day}
use Rattle.book.specs.declared.Book.{Book}
use Rattle.book.proofs.Sound.{starts-long, stands_long}
use Rattle.dispatch.specs.Legs.{plan_room}
use Rattle.dispatch.proofs.Carried.{sound_given}
use Rattle.dispatch.proofs.DayServed.{FreshDay, day_sound, day_fits, calls_fit, calls-long, day_called, day_asked, day_kept}
use Rattle.dispatch.proofs.DayServed.{last_long, last_within, last_lent, home_given, floor_given, day_figures_lem}
use Rattle.dispatch.proofs.Roads.{sound_roads}
use Rattle.dispatch.proofs.ends.Laws.{own_made}
use Rattle.dispatch.proofs.day.served.Goals as goal
use Rattle.dispatch.proofs.day.served.Goals.{Start}

given : (c : Start) → FreshDay c.args.day c.args.table.now c.args.fresh
given c = record {
  none = c.requires.0;
  lengths = record { starts = search rules; requests = search rules };
  fresh = c.requires.1;
  arrays = record { starts = search rules; stands = search rules; requests = search rules; driven = search rules };
  plan = search rules;
  weights = search rules;
}

-- there is room for the cranes
room : {day : Day} {t : Table} {book : Book} → FreshDay day t book → book.cranes ≤ plan_room
room g = omega (arith, (day_asked g).cranes, starts-long (day_fits g))

pub own-plan-requires : goal.own-plan-requires
own-plan-requires c = room (given (goal.at.own-plan-requires c).Start)

pub of_book-requires : goal.of_book-requires
of_book-requires c = let g = given (goal.at.of_book-requires c).Start in sound_given g.arrays (day_sound g) c.zeros-costs.ensures

pub slice_bounds-starts-end : goal.slice_bounds-starts-end
slice_bounds-starts-end c = (day_fits (given (goal.at.slice_bounds-starts-end c).Start)).starts

pub slice_bounds-instance-end : goal.slice_bounds-instance-end
slice_bounds-instance-end c = sym (starts-long (day_fits (given (goal.at.slice_bounds-instance-end c).Start)))

pub slice_bounds-requests-end : goal.slice_bounds-requests-end
slice_bounds-requests-end c = calls_fit (given (goal.at.slice_bounds-requests-end c).Start)

pub slice_bounds-instance-end-2 : goal.slice_bounds-instance-end-2
slice_bounds-instance-end-2 c = sym (calls-long (given (goal.at.slice_bounds-instance-end-2 c).Start))

pub slice_bounds-stands-end : goal.slice_bounds-stands-end
slice_bounds-stands-end c = (day_fits (given (goal.at.slice_bounds-stands-end c).Start)).stands

pub slice_bounds-serve_all-end : goal.slice_bounds-serve_all-end
slice_bounds-serve_all-end c = sym (stands_long (day_fits (given (goal.at.slice_bounds-serve_all-end c).Start)))

pub serve_all-driven-requires : goal.serve_all-driven-requires
serve_all-driven-requires c = let g = given (goal.at.serve_all-driven-requires c).Start in
    let few = (day_asked g).few in
    record {
      places = _;
      between = _;
      roads = sound_roads (day_sound g);
      kept = day_kept g c.of_book.ensures (own_made _ (room g) c.own-plan.ensures c.zeros-weights.ensures);
      called = day_called g;
      few = few;
      sent = few;
      driven = few;
      costed = few;
    }

pub floor-floor-requires : goal.floor-floor-requires
floor-floor-requires c = let g = given (goal.at.floor-floor-requires c).Start in
    let own = own_made _ (room g) c.own-plan.ensures c.zeros-weights.ensures in
    let done = c.serve_all-driven.ensures.done _ _ (sound_roads (day_sound g)) (day_kept g c.of_book.ensures own) (day_called g) in
    floor_given g done (omega (arith, c.serve_all-driven.ensures.sized, own.plan_long)) (omega (arith, c.serve_all-driven.ensures.sized, own.weights_long))

pub slice_bounds-stands-end-2 : goal.slice_bounds-stands-end-2
slice_bounds-stands-end-2 c = let g = given (goal.at.slice_bounds-stands-end-2 c).Start in
    let own = own_made _ (room g) c.own-plan.ensures c.zeros-weights.ensures in
    let done = c.serve_all-driven.ensures.done _ _ (sound_roads (day_sound g)) (day_kept g c.of_book.ensures own) (day_called g) in
    last_within g done _

pub slice_bounds-home-end : goal.slice_bounds-home-end
slice_bounds-home-end c = let g = given (goal.at.slice_bounds-home-end c).Start in
    let own = own_made _ (room g) c.own-plan.ensures c.zeros-weights.ensures in
    let done = c.serve_all-driven.ensures.done _ _ (sound_roads (day_sound g)) (day_kept g c.of_book.ensures own) (day_called g) in
    sym (ap length (last_lent g done _) ∙ last_long g done)

pub home-home-requires : goal.home-home-requires
home-home-requires c = let g = given (goal.at.home-home-requires c).Start in
    let own = own_made _ (room g) c.own-plan.ensures c.zeros-weights.ensures in
    let done = c.serve_all-driven.ensures.done _ _ (sound_roads (day_sound g)) (day_kept g c.of_book.ensures own) (day_called g) in
    rw (last_lent g done _) (home_given g done c.floor-floor.ensures.1)

pub returns : goal.returns
returns c = let g = given (goal.at.returns c).Start in
    let own = own_made _ (room g) c.own-plan.ensures c.zeros-weights.ensures in
    let done = c.serve_all-driven.ensures.done _ _ (sound_roads (day_sound g)) (day_kept g c.of_book.ensures own) (day_called g) in
    day_figures_lem g done _ (last_lent g done _) c.home-home.ensures c.floor-floor.ensures.0
