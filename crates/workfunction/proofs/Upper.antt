-- The upper bound: a plan is a movement that costs no more. At each call the crane goes there whose last stop the call
-- follows, and the others stay, each at the place of its tag. Assumes nothing.
use Prim.Native.Nat.{ℕ, zero, suc, ◌+◌, ◌<◌, ◌≤◌, zero-le, suc-le-suc}
use mathlib.Core.Bool.{Bool, true, false, cond}
use mathlib.Core.List.Memᴰ
use mathlib.Core.List.Forall₂
use mathlib.Core.List.{List, [], ◌∷◌, map, Memᴰ}
use mathlib.Core.List.Permᴰ
use mathlib.Core.List.{Permᴰ}
use mathlib.Core.Logic.{◌⊎◌, inl, inr, ⊎_elim}
use mathlib.Core.Path.{◌≡◌, refl, sym, subst, ◌∙◌}
use borrow.Author.Tests.{eqb-true}
use lib.Dec.{eqb}
use lib.ListN.{length, get_or, set, length-map}
use native.Mathlib.Nat.{suc_inj, suc-ne-zero, zero-add, le_trans, le_refl, lt_irrefl, not-suc-le-zero, le_of_suc-le-suc}
use native.Mathlib.Omega.{arith}
use Rattle.base.specs.Metric.{Metric}
use Rattle.workfunction.specs.Position.{Position, pairing, distance}
use Rattle.workfunction.specs.Movement.{Instance, Movement, cost}
use Rattle.workfunction.specs.Plan.{follows, plan_cost, stops, place}
use Rattle.workfunction.proofs.Plan.{Plan, follows-not}
use Rattle.workfunction.proofs.Position.{pairing-map, distance_below, distance_left, distance-moved, together}
use Rattle.workfunction.proofs.Stops.{Run, over, then, run_calls, left, left_none, tags_within, tags_set, tags_places, first_tags, first_tags_lem}
use Rattle.workfunction.proofs.Stops.{first_places, all_stops, stop_placed}
use Rattle.workfunction.proofs.Sums.{total, total_order, total_set, length_order, in_reordered, set_in, entry_in}

-- ---- the tag that a follower follows

find : (f : ℕ → ℕ) (b : ℕ) (T : List ℕ) → 0 < total (follows f b) T → (j : ℕ) × (j < length T) × (f (get_or T j 0) ≡ b)
unfolding total follows
find f b [] h = absurd (not-suc-le-zero h)
find f b (t ∷ T) h = go (eqb (f t) b) refl h (find f b T)
  where
    go : (x : Bool) → eqb (f t) b ≡ x → 0 < cond x 1 0 + total (follows f b) T
        → (0 < total (follows f b) T → (j : ℕ) × (j < length T) × (f (get_or T j 0) ≡ b))
        → (j : ℕ) × (j < suc (length T)) × (f (get_or (t ∷ T) j 0) ≡ b)
    go true e h more = (0, suc-le-suc zero-le, eqb-true (f t) b e)
    go false e h more = let rest = more (rw (zero-add (total (follows f b) T)) at h) in (suc rest.0, suc-le-suc rest.1, rest.2)

-- and that tag drawn to the front
drawn : {t : ℕ} {T : List ℕ} → Memᴰ t T → (U : List ℕ) × Permᴰ T (t ∷ U)
drawn (Memᴰ.head {xs = T} e) = (T, Permᴰ.cons (sym e) (Permᴰ.refl T))
drawn (Memᴰ.tail {x} m) =
    let rest = drawn m in
    (x ∷ rest.0, Permᴰ.trans (Permᴰ.cons refl rest.1) (Permᴰ.swap refl refl))

pulled : (f : ℕ → ℕ) (b : ℕ) (T : List ℕ) → 0 < total (follows f b) T → (t : ℕ) × (U : List ℕ) × Permᴰ T (t ∷ U) × (f t ≡ b)
pulled f b T h =
    let found = find f b T h in
    let out = drawn (entry_in T found.0 found.1) in
    (get_or T found.0 0, out.0, out.1, found.2)

-- the others still follow one tag
once_without : (f : ℕ → ℕ) (e t : ℕ) {T U : List ℕ} → Permᴰ T (t ∷ U) → (f t ≡ e → ⊥) → total (follows f e) T ≡ 1 → total (follows f e) U ≡ 1
unfolding total
once_without f e t p other once =
    let sum = total_order (follows f e) p in
    let none = follows-not f e t other in
    omega arith

-- where each end follows one tag, the tags have an order in which each slot has the tag that its end follows
ordered : (f a places : ℕ → ℕ) (g : ℕ → ℕ → ℕ) {j : ℕ} {C : List ℕ} → Run places j C → (U : List ℕ) → length U ≡ length C
    → ((e : ℕ) → j ≤ e → e < j + length C → total (follows f e) U ≡ 1)
    → ((u e : ℕ) → Memᴰ u U → j ≤ e → e < j + length C → f u ≡ e → g u (places e) ≤ a u)
    → (X : List ℕ) × Permᴰ U X × (pairing g X C ≤ total a U)
unfolding pairing total
ordered f a places g over [] h once leg = ([], Permᴰ.refl [], zero-le)
ordered f a places g over (u ∷ U) h once leg = absurd (suc-ne-zero _ h)
ordered f a places g {j} (then {r = q} {rs = C} here run) U h once leg =
    let high : j < j + suc (length C) = omega arith in
    let out = pulled f j U (rw (once j (le_refl j) high) (suc-le-suc zero-le)) in
    let t = out.0 in
    let p = out.2 in
    let rest = ordered f a places g run out.1 (suc_inj (sym (length_order p) ∙ h))
    (λ e low lt. once_without f e t p (λ q. lt_irrefl j (rw (sym q ∙ out.3) at low)) (once e (omega arith) (omega arith)))
    (λ u e m low lt. leg u e (in_reordered (Permᴰ.symm p) (Memᴰ.tail m)) (omega arith) (omega arith))
    in
    let sum = total_order a p in
    let last = rw here at (leg t j (in_reordered (Permᴰ.symm p) (Memᴰ.head refl)) (le_refl j) high out.3) in
    let others = rest.2 in
    (t ∷ rest.0, Permᴰ.trans {l₃ = t ∷ rest.0} p (Permᴰ.cons {l₂ = rest.0} refl rest.1), omega arith)

-- ---- the movement

-- lists of stops as lists of places
map-set : (f : ℕ → ℕ) (T : List ℕ) (j i : ℕ) → map f (set T j i) ≡ set (map f T) j (f i)
map-set f [] j i = refl
map-set f (t ∷ T) zero i = refl
map-set f (t ∷ T) (suc j) i = rw (map-set f T j i)

get_d_map : (f : ℕ → ℕ) (T : List ℕ) (j : ℕ) → j < length T → get_or (map f T) j 0 ≡ f (get_or T j 0)
get_d_map f [] j h = absurd (not-suc-le-zero h)
get_d_map f (t ∷ T) zero h = refl
get_d_map f (t ∷ T) (suc j) h = get_d_map f T j (le_of_suc-le-suc h)

-- a movement over the calls that are left, from the places of the tags T, and the tags that it ends with; a p is the cost
-- of the leg from stop p
record Moves (n k N : ℕ) (d : ℕ → ℕ → ℕ) (stop f a : ℕ → ℕ) (i : ℕ) (rs T : List ℕ) : Type 0 where
  pub via : List (List ℕ)
  pub last : List ℕ
  pub moves : Movement n k rs via
  pub tags : Position N k last
  pub once : (e : ℕ) → e < k → total (follows f e) last ≡ 1
  pub bound : (C : List ℕ) → cost d (map stop T) via C + total a last ≤ total a T + left a i rs + distance d (map stop last) C

module _ {n : ℕ} {d : ℕ → ℕ → ℕ} (laws : Metric n d) {k N : ℕ} (stop : ℕ → ℕ) (on : (p : ℕ) → p < N → stop p < n) {f : ℕ → ℕ}
    (plan : Plan k N f) (a : ℕ → ℕ) (leg : (p : ℕ) → p < N → k ≤ f p → d (stop p) (stop (f p)) ≤ a p) where
  -- the crane whose tag is followed by i goes there
  one_move : (T : List ℕ) (j i : ℕ) → Position N k T → j < length T → k ≤ i → i < N → f (get_or T j 0) ≡ i
      → distance d (map stop T) (map stop (set T j i)) ≤ a (get_or T j 0)
  one_move T j i tags lt call below goes =
      let way = rw goes at (leg (get_or T j 0) (tags.placed (entry_in T j lt)) (rw goes call)) in
      let move = distance-moved laws (map stop T) j (stop i) (tags_places stop on tags) (rw (length-map T stop) lt) (on i below) in
      le_trans (rw (map-set stop T j i, ← get_d_map stop T j lt) move) way

  -- no stop from i on is followed by the call i
  none_later : (i p : ℕ) → k ≤ i → i ≤ p → p < N → f p ≡ i → ⊥
  none_later i p call low lt e =
      ⊎_elim (λ h. lt_irrefl i (le_trans (rw e at h) call)) (λ h. lt_irrefl p (le_trans (rw e at h) low)) (plan.may p lt)

  -- every other follower still follows one tag, or one stop that is left
  once_on : (T rs : List ℕ) (j i b : ℕ) → j < length T → f (get_or T j 0) ≡ i → (b ≡ i → ⊥)
      → total (follows f b) T + left (follows f b) i (i ∷ rs) ≡ 1 → total (follows f b) (set T j i) + left (follows f b) (suc i) rs ≡ 1
  unfolding left
  once_on T rs j i b lt goes other once =
      let sum = total_set (follows f b) T j i lt in
      let none = follows-not f b (get_or T j 0) (λ e. other (sym e ∙ goes)) in
      omega arith

  -- the movement with that move before it
  move_first : {i r : ℕ} {rs : List ℕ} (T : List ℕ) (j : ℕ) → Position N k T → j < length T → k ≤ i → i < N → f (get_or T j 0) ≡ i
      → stop i ≡ r → Position N k (set T j i) → Moves n k N d stop f a (suc i) rs (set T j i) → Moves n k N d stop f a i (r ∷ rs) T
  unfolding left cost
  move_first {i} T j tags lt call below goes here after next =
      record {
        via = map stop (set T j i) ∷ next.via;
        last = next.last;
        moves = Forall₂.cons (tags_places stop on after, Memᴰ.cast (sym here) (Memᴰ.map stop (set_in T j i lt))) next.moves;
        tags = next.tags;
        once = next.once;
        bound = λ C.
            let rest = next.bound C in
            let move = one_move T j i tags lt call below goes in
            let sum = total_set a T j i lt in
            omega arith;
      }

  upper : {i : ℕ} {rs T : List ℕ} → Run stop i rs → Position i k T → k ≤ i → i + length rs ≡ N
      → ((b : ℕ) → b < N → (b < k) ⊎ (i ≤ b) → total (follows f b) T + left (follows f b) i rs ≡ 1) → Moves n k N d stop f a i rs T
  unfolding left cost
  upper {T = T} over tags call all once =
      record {
        via = [];
        last = T;
        moves = Forall₂.nil;
        tags = tags_within (omega arith) tags;
        once = λ e lt. let at = once e (omega arith) (inl lt) in omega arith;
        bound = λ C. omega arith;
      }
  upper {i} {T = T} (then {r = r} {rs = rs} here run) tags call all once =
      let now : i < N = omega arith in
      let none : left (follows f i) i (r ∷ rs) ≡ 0 =
      left_none (follows f i) i (r ∷ rs) (λ p low high. follows-not f i p (none_later i p call low (omega arith)))
      in
      let some : 0 < total (follows f i) T = let at = once i now (inr (le_refl i)) in omega arith in
      let found = find f i T some in
      let j = found.0 in
      let after : Position (suc i) k (set T j i) = tags_set T j tags in
      let other : (b : ℕ) → (b < k) ⊎ (suc i ≤ b) → b ≡ i → ⊥ =
      λ b m e. ⊎_elim (λ h. lt_irrefl i (le_trans (rw e at h) call)) (λ h. lt_irrefl i (rw e at h)) m
      in
      move_first T j (tags_within (omega arith) tags) found.1 call now found.2 here (tags_within now after)
      (upper run after (omega arith) (omega arith)
      (λ b lt m. once_on T rs j i b found.1 found.2 (other b m) (once b lt (⊎_elim inl (λ h. inr (omega arith)) m))))

-- A plan whose legs cost at least their metres costs at least as much as some movement.
module _ {n : ℕ} {d : ℕ → ℕ → ℕ} (laws : Metric n d) {starts calls : List ℕ} (day : Instance n starts calls) {f : ℕ → ℕ}
    (plan : Plan (length starts) (stops starts calls) f) (c : ℕ → ℕ → ℕ)
    (legs : (p b : ℕ) → length starts ≤ b → p < b → b < stops starts calls → d (place starts calls p) (place starts calls b) ≤ c p b) where
  abbrev leg : ℕ → ℕ
  leg p = c p (f p)

  found : Moves n (length starts) (stops starts calls) d (place starts calls) f leg (length starts) calls (first_tags (length starts))
  found =
      upper laws (place starts calls) (stop_placed day) plan leg
      (λ p lt call. legs p (f p) call (⊎_elim (λ h. omega arith) (λ h. h) (plan.may p lt)) (plan.below p lt))
      (run_calls starts calls) (first_tags_lem (length starts)) (le_refl (length starts)) refl
      (λ b lt m. all_stops starts calls (follows f b) ∙ plan.once b lt)

  -- where it ends
  abbrev ends : List ℕ
  ends = map (place starts calls) found.last

  bound : (C : List ℕ) → cost d starts found.via C + total leg found.last ≤ plan_cost (stops starts calls) c f + distance d ends C
  unfolding plan_cost
  bound C =
      subst (λ (A : List ℕ). cost d A found.via C + total leg found.last ≤ plan_cost (stops starts calls) c f + distance d ends C)
      (first_places starts calls) (rw (all_stops starts calls leg) at (found.bound C))

  ending : Position n (length starts) ends
  ending = tags_places (place starts calls) (stop_placed day) found.tags

  -- with the plan's own ends, where their legs cost at least the metres to C
  pub movement_to : {C : List ℕ} → Position n (length starts) C
      → ((p e : ℕ) → p < stops starts calls → e < length starts → d (place starts calls p) (get_or C e 0) ≤ c p e)
      → (M : List (List ℕ)) × Movement n (length starts) calls M × (cost d starts M C ≤ plan_cost (stops starts calls) c f)
  unfolding place
  movement_to {C} at stand =
      let slots = ordered f leg (place [] C) (λ u q. d (place starts calls u) q) (run_calls [] C) found.last (together found.tags at)
      (λ e low lt. found.once e (omega arith))
      (λ u e m low lt goes. rw goes (stand u e (found.tags.placed m) (omega arith)))
      in
      let X = map (place starts calls) slots.0 in
      let least = bound C in
      let near = rw (pairing-map d (place starts calls) slots.0 C) at (distance_below d X C (Permᴰ.refl C)) in
      let order = distance_left d ends X C (together ending at) (Permᴰ.map (place starts calls) slots.1) in
      let sum = slots.2 in
      (found.via, found.moves, omega arith)
