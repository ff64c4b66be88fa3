-- The lower bound: weights that vouch for a plan bound the cost of every movement from below by the plan's cost, several
-- cranes moving at a time included. Assumes nothing.
use Prim.Native.Nat.{ℕ, suc, ◌+◌, ◌<◌, ◌≤◌, zero-le, suc-le-suc}
use mathlib.Core.List.Forall₂
use mathlib.Core.List.{List, [], ◌∷◌, Memᴰ}
use mathlib.Core.Logic.{inl, inr}
use mathlib.Core.Path.{◌≡◌, refl, sym, ap, ◌∙◌}
use lib.ListN.{length, get_or}
use native.Mathlib.Nat.{suc_inj, le_refl, add-zero, zero-add, suc-add, add-suc}
use native.Mathlib.Omega.{arith}
use Rattle.base.specs.Metric.{Metric}
use Rattle.workfunction.specs.Lists.{sum_below}
use Rattle.workfunction.specs.Position.{Position, pairing}
use Rattle.workfunction.specs.Movement.{Instance, Movement, cost}
use Rattle.workfunction.specs.Plan.{plan_cost, stops, place}
use Rattle.workfunction.proofs.Plan.{Plan, Vouched, followers_sum}
use Rattle.workfunction.proofs.Position.{pairing-set, pairing-map, position_order, together, unmoved}
use Rattle.workfunction.proofs.Stops.{Run, over, then, run_calls, left, left_all, sum_left, tags_within, tags_set, along, first_tags, first_tags_lem}
use Rattle.workfunction.proofs.Stops.{first_places, all_stops, stop_placed}
use Rattle.workfunction.proofs.Sums.{total, total_order, total_set, slot_of, entry_in}

-- the ends, slot by slot, numbered from j on
ended : (e : ℕ → ℕ → ℕ) (a b y : ℕ → ℕ) (j : ℕ) (T C : List ℕ) → length T ≡ length C
    → ((t i : ℕ) → Memᴰ t T → i < length C → a t + y (j + i) ≤ e t (get_or C i 0) + b t)
    → total a T + left y j C ≤ pairing e T C + total b T
unfolding total left pairing
ended e a b y j [] [] h vouch = zero-le
ended e a b y j [] (q ∷ C) h vouch = omega arith
ended e a b y j (t ∷ T) [] h vouch = omega arith
ended e a b y j (t ∷ T) (q ∷ C) h vouch =
    let first = rw (add-zero j) at (vouch t 0 (Memᴰ.head refl) (suc-le-suc zero-le)) in
    let rest = ended e a b y (suc j) T C (suc_inj h)
    (λ u i m lt. rw (suc-add j i, ← add-suc j i) (vouch u (suc i) (Memᴰ.tail m) (suc-le-suc lt)))
    in
    omega arith

-- Let a p + y q ≤ d(p,q) + b p for every stop p with every call q after it, and with every end q at its place in C.
module _ {n : ℕ} {d : ℕ → ℕ → ℕ} (laws : Metric n d) {k N : ℕ} (stop : ℕ → ℕ) (on : (p : ℕ) → p < N → stop p < n) (a b y : ℕ → ℕ)
    (later : (p q : ℕ) → k ≤ q → p < q → q < N → a p + y q ≤ d (stop p) (stop q) + b p) {C : List ℕ} (c : Position n k C)
    (ends : (p e : ℕ) → p < N → e < k → a p + y e ≤ d (stop p) (get_or C e 0) + b p) where
  abbrev way : ℕ → ℕ → ℕ
  way t p = d (stop t) p

  -- over the calls that are left, and the ends
  lower : {i : ℕ} {rs T P : List ℕ} {M : List (List ℕ)} → Run stop i rs → Movement n k rs M → Position i k T → Position n k P
      → k ≤ i → i + length rs ≡ N
      → left y i rs + left a i rs + total a T + sum_below k y ≤ cost d P M C + pairing way T P + left b i rs + total b T
  unfolding left cost
  lower {T = T} {P} over Forall₂.nil tags at call all =
      let within : Position N k T = tags_within (omega arith) tags in
      let to = along laws stop on T P C within at c in
      let last : Position N k to.0 = position_order to.1 within in
      let slots = ended way a b y 0 to.0 C (together last c)
      (λ t e m lt. rw (zero-add e) (ends t e (last.placed m) (rw (← c.cranes) lt)))
      in
      let sum = rw c.cranes at (left_all y C) in
      let same-a = total_order a to.1 in
      let same-b = total_order b to.1 in
      let far = to.2 in
      omega arith
  lower {i} {T = T} {P} (then {rs = rs} here run) (Forall₂.cons {b = Q} h more) tags at call all =
      let now : i < N = omega arith in
      let to = along laws stop on T P Q (tags_within (omega arith) tags) at h.0 in
      let U = to.0 in
      let moved : Position i k U = position_order to.1 tags in
      let slot = slot_of h.1 in
      let j = slot.0 in
      let same : length U ≡ length Q = together moved h.0 in
      let lt : j < length U = rw same slot.1 in
      let next = lower run more (tags_set U j moved) h.0 (omega arith) (omega arith) in
      let served = later (get_or U j 0) i call (moved.placed (entry_in U j lt)) now in
      let arrived = rw (slot.2 ∙ sym here, laws.self (stop i) (on i now)) at (pairing-set way U Q j i lt same) in
      let set_a = total_set a U j i lt in
      let set_b = total_set b U j i lt in
      let same-a = total_order a to.1 in
      let same-b = total_order b to.1 in
      let far = to.2 in
      omega arith

-- No movement costs less than a plan with weights that vouch, where no leg of the plan costs more than the metres to its
-- call, or to the place that the movement's end has for its stand.
pub movement_above : {n : ℕ} {d : ℕ → ℕ → ℕ} {starts calls C : List ℕ} {f y : ℕ → ℕ} {c : ℕ → ℕ → ℕ} {M : List (List ℕ)} → Metric n d
    → Instance n starts calls → Position n (length starts) C → Plan (length starts) (stops starts calls) f
    → Vouched (length starts) (stops starts calls) f c y
    → ((p b : ℕ) → length starts ≤ b → p < b → b < stops starts calls → c p b ≤ d (place starts calls p) (place starts calls b))
    → ((p e : ℕ) → p < stops starts calls → e < length starts → c p e ≤ d (place starts calls p) (get_or C e 0))
    → Movement n (length starts) calls M → plan_cost (stops starts calls) c f ≤ cost d starts M C
unfolding plan_cost
movement_above {d = d} {starts} {calls} {C} {f} {y} {c} laws day at plan vouched legs ends moves =
    let k = length starts in
    let bound = lower laws (place starts calls) (stop_placed day) (λ p. c p (f p)) (λ p. y (f p)) y
    (λ p q call low lt. let v = vouched.vouch p q (omega arith) lt (inr low) in let l = legs p q call low lt in omega arith) at
    (λ p e lt end. let v = vouched.vouch p e lt (omega arith) (inl end) in let l = ends p e lt end in omega arith)
    (run_calls starts calls) moves (first_tags_lem k) day.started (le_refl k) refl
    in
    let still = unmoved laws starts (λ p m. day.started.placed m) in
    let begin = sym (pairing-map d (place starts calls) (first_tags k) starts) ∙ ap (λ T. pairing d T starts) (first_places starts calls) in
    let costs = all_stops starts calls (λ p. c p (f p)) in
    let weights = all_stops starts calls (λ p. y (f p)) in
    let followers = sum_left y k calls in
    let law = followers_sum plan y in
    omega arith
