-- `dayfile::legs::put` meets its contract: the legs to each place are written behind those to the earlier ones.
-- Assumes nothing.
use Prim.Native.Nat.{ℕ, ◌+◌, ◌*◌, ◌<◌, ◌≤◌, zero-le}
use mathlib.Core.List.{List}
use mathlib.Core.Path.{◌≡◌, refl}
use lib.ListN.{length}
use native.Mathlib.Nat.{zero-add}
use native.Mathlib.Omega.{arith}
use Rattle.base.specs.Lists.{up_to, splice}
use Rattle.road.specs.Table.{leg_count, in_order}
use Rattle.road.proofs.Order.{legs_before, leg_count_more, in_order_more, length-in_order}
use Rattle.dayfile.specs.Codec.{encode_all}
use Rattle.dayfile.specs.Legs.{leg, leg_records}
use Rattle.dayfile.proofs.codec.Laws.{Put, put_begun, put_turned}
use Rattle.dayfile.proofs.legs.put.Goals as goal

row_put : (d : ℕ → ℕ → ℕ) (n : ℕ) (old now new : List ℕ) (v : ℕ) → 12 * leg_count n ≤ length old → Put (leg_records d) 0 old n now v → v < n
    → new ≡ splice (12 * leg_count v) (encode_all (up_to v (λ u. leg u v (d u v)))) now → Put (leg_records d) 0 old n new (v + 1)
row_put d n old now new v fits p lt e =
    put_turned (leg_records d) 0 old n now new v (up_to v (λ u. leg u v (d u v))) (in_order_more (λ x y. leg x y (d x y)) v)
    (rw (length-in_order (λ x y. leg x y (d x y)) (v + 1), leg_count_more v) (omega (arith, legs_before v n lt))) p lt
    (rw (length-in_order (λ x y. leg x y (d x y)) v, zero-add) e)

pub loop-v-init : goal.loop-v-init
unfolding in_order
loop-v-init c = put_begun (leg_records _) 0 _ _ refl zero-le

pub put_to-requires : goal.put_to-requires
put_to-requires c = let h = legs_before _ _ c.loop-v-test.true in
    (omega arith, omega arith)

pub loop-v-preserved : goal.loop-v-preserved
loop-v-preserved c = row_put _ _ _ _ _ _ c.requires.1 c.loop-v.invariant c.loop-v-test.true c.put_to.ensures
