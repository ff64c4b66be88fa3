-- Metres that agree between the places below n give the same distances, the same work function and floor, the same choice of a
-- crane and the same figures of the calls: no metre past the places is read. Assumes nothing.
use Prim.Native.Nat.{ℕ, ◌<◌}
use mathlib.Core.List.Forall₂
use mathlib.Core.List.{List, [], ◌∷◌, ◌++◌, map, map_congr_left, Memᴰ}
use mathlib.Core.Logic.{∥∥₁_elim}
use mathlib.Core.Path.{◌≡◌, refl, ap, fun_ext}
use lib.ListN.{length, get_or, get_or-eq_default}
use native.Mathlib.Decide.{dec_lt}
use native.Mathlib.Nat.{ℕ_set}
use native.Mathlib.Omega.{arith}
use Rattle.workfunction.specs.Lists.{minimum, permutations}
use Rattle.workfunction.specs.Position.{Position, pairing, distance}
use Rattle.workfunction.specs.Movement.{Movement, movements, cost, work, floor}
use Rattle.workfunction.specs.Choice.{moved, drive, work_then, move_sum, net_cost, choice}
use Rattle.workfunction.specs.Serving.{served_by, served, serve, stands_after}
use Rattle.workfunction.proofs.Lists.{in_permutations}
use Rattle.workfunction.proofs.Movement.{in_movements}
use Rattle.workfunction.proofs.Position.{pairing-same, position_order, position_set}
use Rattle.workfunction.proofs.Sums.{entry_in}

-- rules that agree on the elements of a list have the same minimum
minimum-same : {A : Type 0} (f g : A → ℕ) (l : List A) → ((a : A) → Memᴰ a l → f a ≡ g a) → minimum (map f l) ≡ minimum (map g l)
minimum-same f g l same = ap minimum (map_congr_left (λ a m. ∥∥₁_elim m (ℕ_set (f a) (g a)) (same a)))

-- the stand of any crane, 0 past the last
stand_below : {n k : ℕ} (C : List ℕ) → Position n k C → 0 < n → (s : ℕ) → get_or C s 0 < n
stand_below {n} C c some s = either (dec_lt s (length C))
  where
    either : Dec (s < length C) → get_or C s 0 < n
    either (yes lt) = c.placed (entry_in C s lt)
    either (no past) = rw (get_or-eq_default C 0 {n = s} (omega arith)) some

module _ {n : ℕ} {d e : ℕ → ℕ → ℕ} (same : (u v : ℕ) → u < n → v < n → d u v ≡ e u v) where
  -- the distance of two positions
  pub distance-same : {k l : ℕ} {A B : List ℕ} → Position n k A → Position n l B → distance d A B ≡ distance e A B
  unfolding distance
  distance-same {A = A} {B} a b =
      minimum-same (pairing d A) (pairing e A) (permutations B)
      (λ X m. pairing-same d e A X (λ u v p q. same u v (a.placed p) ((position_order (in_permutations B m) b).placed q)))

  -- what a movement costs
  pub cost-same : {m k l : ℕ} {calls A C : List ℕ} {M : List (List ℕ)} → Position n k A → Position n l C → Movement n m calls M
      → cost d A M C ≡ cost e A M C
  unfolding cost
  cost-same a c Forall₂.nil = distance-same a c
  cost-same a c (Forall₂.cons h more) = rw (distance-same a h.0, cost-same h.0 c more)

  module _ {starts : List ℕ} (started : Position n (length starts) starts) where
    -- w of a position, whatever the calls
    pub work-same : (calls : List ℕ) {k : ℕ} {C : List ℕ} → Position n k C → work d n starts calls C ≡ work e n starts calls C
    unfolding work
    work-same calls {C = C} c =
        minimum-same (λ M. cost d starts M C) (λ M. cost e starts M C) (movements n (length starts) calls)
        (λ M m. cost-same started c (in_movements n (length starts) calls m))

    -- w of the starts
    pub floor-same : (calls : List ℕ) → floor d n starts calls ≡ floor e n starts calls
    unfolding floor
    floor-same calls = work-same calls started

    module _ (calls : List ℕ) {k : ℕ} {stands : List ℕ} (standing : Position n k stands) {r : ℕ} (asked : r < n) where
      -- the way of a crane to the call
      pub drive-same : (s : ℕ) → drive d stands r s ≡ drive e stands r s
      unfolding drive
      drive-same s = same (get_or stands s 0) r (stand_below stands standing (omega arith) s) asked

      -- w with the call as the last, where crane s is sent to it
      pub work_then-same : (s : ℕ)
          → work_then d n starts calls stands r (moved stands r s) ≡ work_then e n starts calls stands r (moved stands r s)
      work_then-same s = work-same (calls ++ (r ∷ [])) (position_set stands s r asked standing)

      -- the sum of a single move
      pub move_sum-same : (s : ℕ) → move_sum d n starts calls stands r s ≡ move_sum e n starts calls stands r s
      unfolding move_sum
      move_sum-same s = simp (work_then-same s, drive-same)

      -- its net cost
      pub net_cost-same : (s : ℕ) → net_cost d n starts calls stands r s ≡ net_cost e n starts calls stands r s
      unfolding net_cost
      net_cost-same s = rw (work_then-same s, work-same calls standing)

      -- the crane chosen
      pub choice-same : choice d n starts calls stands r ≡ choice e n starts calls stands r
      unfolding choice
      choice-same =
          let sums : move_sum d n starts calls stands r ≡ move_sum e n starts calls stands r = fun_ext move_sum-same in
          let drives : drive d stands r ≡ drive e stands r = fun_ext drive-same in
          cc

      -- the figures of the call, by the crane that is sent and by the crane chosen
      pub served_by-same : (s : ℕ) → served_by d n starts s calls stands r ≡ served_by e n starts s calls stands r
      unfolding served_by
      served_by-same s = rw (drive-same s, work_then-same s)

      pub served-same : served d n starts calls stands r ≡ served e n starts calls stands r
      served-same = rw choice-same (served_by-same _)

    -- the figures of calls served in turn
    pub serve-same : (calls : List ℕ) {k : ℕ} {stands : List ℕ} → Position n k stands → (rs : List ℕ) → ((r : ℕ) → Memᴰ r rs → r < n)
        → serve d n starts calls stands rs ≡ serve e n starts calls stands rs
    unfolding serve
    serve-same calls standing [] asked = refl
    serve-same calls {stands = stands} standing (r ∷ rs) asked =
        let here : r < n = asked r (Memᴰ.head refl) in
        let there = position_set stands (choice e n starts calls stands r) r here standing in
        let rest = serve-same (calls ++ (r ∷ [])) there rs (λ q m. asked q (Memᴰ.tail m)) in
        rw (served-same calls standing here, choice-same calls standing here, rest)

    -- and the stands then
    pub stands_after-same : (calls : List ℕ) {k : ℕ} {stands : List ℕ} → Position n k stands → (rs : List ℕ) → ((r : ℕ) → Memᴰ r rs → r < n)
        → stands_after d n starts calls stands rs ≡ stands_after e n starts calls stands rs
    unfolding stands_after
    stands_after-same calls standing [] asked = refl
    stands_after-same calls {stands = stands} standing (r ∷ rs) asked =
        let here : r < n = asked r (Memᴰ.head refl) in
        let there = position_set stands (choice e n starts calls stands r) r here standing in
        rw (choice-same calls standing here) (stands_after-same (calls ++ (r ∷ [])) there rs (λ q m. asked q (Memᴰ.tail m)))
