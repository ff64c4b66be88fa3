-- `road::triangles::test_pair` meets its contract: the legs to v and those to w from the places before v stand in two parts of the run.
-- Assumes nothing.
use Prim.Native.Nat.{ℕ, ◌+◌, ◌-◌, ◌<◌, ◌≤◌}
use mathlib.Core.List.{List}
use mathlib.Core.Path.{◌≡◌, sym, ap, ◌∙◌}
use lib.ListN.{length, get_or, take, drop, length-drop}
use lib.Seq.{get_or-take, get_or-drop, length-take-le}
use native.Mathlib.Nat.{le_of_lt}
use native.Mathlib.Omega.{arith}
use Rattle.base.specs.Tests.{all_below}
use Rattle.base.proofs.Tests.{below_same}
use Rattle.road.specs.Table.{Table, most_places, most_legs, leg_count, legs_of, metres_of}
use Rattle.road.specs.Triangles.{sides_rule, pair_rule}
use Rattle.road.proofs.Order.{legs_counted, leg_count_most, legs_before}
use Rattle.road.proofs.Table.{metres_up}
use Rattle.road.proofs.triangles.test_pair.Goals as goal
use Rattle.road.proofs.triangles.test_pair.Goals.{After-legs-far}

-- where the two parts stand
record Parts (v w near far long : ℕ) : Type 0 where
  first : near ≡ leg_count v
  second : far ≡ leg_count w
  apart : near + v ≤ far
  whole : far + w ≤ long
  few : far ≤ most_legs
  earlier : v < w
  within : w < most_places

parts : (v w near far long : ℕ) → v < w → w < most_places → leg_count w + w ≤ long → near ≡ legs_of v → far ≡ legs_of w → Parts v w near far long
parts v w near far long lt below fits e f =
    let first : near ≡ leg_count v = e ∙ legs_counted v (omega arith) in
    let second : far ≡ leg_count w = f ∙ legs_counted w (le_of_lt below) in
    record {
      first = first;
      second = second;
      apart = omega (arith, legs_before v w lt);
      whole = omega arith;
      few = omega (arith, leg_count_most w (le_of_lt below));
      earlier = lt;
      within = below;
    }

held : (c : After-legs-far) → Parts c.args.v c.args.w c.legs-near.result c.legs-far.result (length c.args.table.now)
held c =
    parts c.args.v c.args.w _ _ _ c.requires.0 c.requires.1.0 c.requires.1.1 c.legs-near.ensures c.legs-far.ensures

-- the legs from the places before v that stand from an index on
abbrev row : Table → ℕ → ℕ → List ℕ
row t at v = take (at + v - at) (drop at t)

module _ (t : Table) (at v : ℕ) where
  length_row : at + v ≤ length t → length (row t at v) ≡ v
  length_row fits = length-take-le (at + v - at) (drop at t) (rw length-drop (omega arith)) ∙ omega arith

  row_at : (w u : ℕ) → at ≡ leg_count w → u < v → u < w → get_or (row t at v) u 0 ≡ metres_of t u w
  row_at w u e p q =
      get_or-take (at + v - at) (drop at t) u 0 (omega arith) ∙ get_or-drop at t u 0 ∙ ap (λ (i : ℕ). get_or t (i + u) 0) e ∙ sym (metres_up t u w q)

-- what the two rows and the leg across tell
pair-told : (t : Table) (v w near far : ℕ) → Parts v w near far (length t)
    → all_below (length (row t near v)) (λ u. sides_rule (get_or (row t near v) u 0) (get_or (row t far v) u 0) (get_or t (far + v) 0)) ≡ pair_rule (metres_of t) w v
pair-told t v w near far h =
    let across : get_or t (far + v) 0 ≡ metres_of t v w = ap (λ (i : ℕ). get_or t (i + v) 0) h.second ∙ sym (metres_up t v w h.earlier) in
    rw (length_row t near v (omega arith))
    (below_same _ _ v (λ u p. rw (row_at t near v v u h.first p p, row_at t far v w u h.second p (omega arith), across)))

pub overflow_add-near : goal.overflow_add-near
overflow_add-near c = let h = held (goal.at.overflow_add-near c).After-legs-far in omega arith

pub offset_bounds-table-near : goal.offset_bounds-table-near
offset_bounds-table-near c = let h = held (goal.at.offset_bounds-table-near c).After-legs-far in omega arith

pub slice_bounds-rows_keep-end : goal.slice_bounds-rows_keep-end
slice_bounds-rows_keep-end c = let h = held (goal.at.slice_bounds-rows_keep-end c).After-legs-far in omega arith

pub returns-then-rows_keep : goal.returns-then-rows_keep
returns-then-rows_keep c = rw (← pair-told _ _ _ _ _ (held (goal.at.returns-then-rows_keep c).After-legs-far), ← c.rows_keep.ensures, c.if-rows_keep.true)

pub returns : goal.returns
returns c = rw (← pair-told _ _ _ _ _ (held (goal.at.returns c).After-legs-far), ← c.rows_keep.ensures, c.if-rows_keep.false)
