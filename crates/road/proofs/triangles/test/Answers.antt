-- `road::triangles::test` meets its contract: the loop passes the places w that keep the rule with each two places before them, and that is the
-- rule of all places.
-- Assumes nothing.
use Prim.Native.Nat.{ℕ}
use mathlib.Core.Bool.{Bool}
use mathlib.Core.Path.{◌≡◌, refl, sym, ap, ◌∙◌}
use native.Mathlib.Omega.{arith}
use Rattle.base.specs.Numbers.{unless}
use Rattle.base.specs.Tests.{all_below}
use Rattle.base.proofs.Numbers.{up, turns, stops_below}
use Rattle.base.proofs.Tests.{begun, ended}
use Rattle.road.specs.Table.{Table, metres_of, triangle_rule}
use Rattle.road.specs.Triangles.{place_rule}
use Rattle.road.proofs.Order.{legs_before}
use Rattle.road.proofs.Table.{metres_self, metres_both}
use Rattle.road.proofs.triangles.Laws.{triangles_by_sides}
use Rattle.road.proofs.triangles.test.Goals as goal

-- the places that the loop tests are all of them, and the metres of a run are 0 from a place to itself and the same both ways
all_places : (n : ℕ) (t : Table) → all_below n (place_rule (metres_of t)) ≡ triangle_rule n (metres_of t)
all_places n t = triangles_by_sides n (metres_of t) (λ u. metres_self t u u refl) (metres_both t)

pub loop-w-init : goal.loop-w-init
loop-w-init c = begun _ _

pub test_place-requires : goal.test_place-requires
test_place-requires c = (omega arith, omega (arith, legs_before _ _ c.loop-w-test.true, c.requires.1))

pub returns-in_err-test_place : goal.returns-in_err-test_place
returns-in_err-test_place c = up _ _ _ c.from_residual.ensures.1
    (stops_below _ c.args.places c.loop-w.w 8 (place_rule (metres_of c.args.table.now)) c.in_err-test_place.ensures c.loop-w-test.true
    ∙ ap (λ (b : Bool). unless b 8) (all_places c.args.places c.args.table.now))

pub loop-w-preserved : goal.loop-w-preserved
loop-w-preserved c = turns _ c.loop-w.w 7 _ c.in_ok-test_place.ensures c.loop-w-test.true c.loop-w.invariant

pub returns : goal.returns
returns c = rw (sym (all_places c.args.places c.args.table.now) ∙ ended _ _ c.loop-w.w c.loop-w.invariant c.loop-w-test.false)
