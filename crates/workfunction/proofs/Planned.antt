-- A movement is a plan that costs no more: at each call a crane that stands there takes it, and the call follows the stop which that
-- crane served last. Assumes nothing.
use Prim.Native.Nat.{ℕ, zero, suc, ◌+◌, ◌<◌, ◌≤◌, zero-le, suc-le-suc}
use mathlib.Core.Bool.{cond}
use mathlib.Core.List.Memᴰ
use mathlib.Core.List.Forall₂
use mathlib.Core.List.{List, [], ◌∷◌, Memᴰ, Permᴰ}
use mathlib.Core.Logic.{◌⊎◌, inl, inr, ⊎_elim}
use mathlib.Core.Path.{◌≡◌, refl, sym, ap, ◌∙◌}
use borrow.Author.Tests.{eq-eqb, ne_eqb}
use lib.Dec.{eqb}
use lib.ListN.{length, get_or, set}
use native.Mathlib.Decide.{ℕ_discrete, dec_lt}
use native.Mathlib.Nat.{le_refl, suc_inj, suc-ne-zero, zero-add, le_trans, add-zero}
use native.Mathlib.Omega.{arith}
use Rattle.base.specs.Metric.{Metric}
use Rattle.workfunction.specs.Lists.{sum_below}
use Rattle.workfunction.specs.Position.{Position, pairing}
use Rattle.workfunction.specs.Movement.{Instance, Movement, cost}
use Rattle.workfunction.specs.Plan.{follows, plan_cost, stops, place}
use Rattle.workfunction.proofs.Lists.{up_to_in}
use Rattle.workfunction.proofs.Plan.{Plan, follows-at, follows-not}
use Rattle.workfunction.proofs.Position.{pairing-set, pairing-map, position_order, together, unmoved}
use Rattle.workfunction.proofs.Stops.{Run, over, then, run_calls, left, left_same, tags_within, tags_set, along, first_tags, first_tags_lem}
use Rattle.workfunction.proofs.Stops.{left_none, first_places, all_stops, stop_placed}
use Rattle.workfunction.proofs.Sums.{total, total_order, total_set, total_same, total_none, total_at, total_up_to, slot_of, entry_in, set_in, set_other, in_reordered, put, put_at, put_other}

-- ---- tags

-- 1 where t is x
is : ℕ → ℕ → ℕ
is x t = cond (eqb t x) 1 0

is_self : (x : ℕ) → is x x ≡ 1
unfolding is
is_self x = rw (eq-eqb x x refl)

is_other : (x t : ℕ) → (t ≡ x → ⊥) → is x t ≡ 0
unfolding is
is_other x t n = rw (ne_eqb t x n)

-- no stop is the tag of two cranes
record Distinct (T : List ℕ) : Type 0 where
  pub few : (x : ℕ) → total (is x) T ≤ 1

-- a member is counted
counted_out : (t : ℕ) {T : List ℕ} → total (is t) T ≡ 0 → Memᴰ t T → ⊥
counted_out t none m = let at = total_at (is t) m in let one = is_self t in omega arith

distinct_tail : {u : ℕ} {U : List ℕ} → Distinct (u ∷ U) → Distinct U
unfolding total
distinct_tail d = record { few = λ x. let one = d.few x in omega arith }

distinct_head : {u : ℕ} {U : List ℕ} → Distinct (u ∷ U) → Memᴰ u U → ⊥
unfolding total
distinct_head {u} {U} d m = let one = d.few u in let self = is_self u in counted_out u (omega arith) m

distinct_order : {T U : List ℕ} → Permᴰ T U → Distinct T → Distinct U
distinct_order p d = record { few = λ x. rw (← total_order (is x) p) (d.few x) }

-- the tag at slot j becomes i, which none was
module _ {i : ℕ} (U : List ℕ) (j : ℕ) (lt : j < length U) (d : Distinct U) (below : (u : ℕ) → Memᴰ u U → u < i) where
  old : get_or U j 0 < i
  old = below _ (entry_in U j lt)

  set_gone : Memᴰ (get_or U j 0) (set U j i) → ⊥
  set_gone =
      let t = get_or U j 0 in
      let sum = total_set (is t) U j i lt in
      let one = d.few t in
      let self = is_self t in
      let other = is_other t i (λ e. let o = old in omega arith) in
      counted_out t (omega arith)

  distinct_set : Distinct (set U j i)
  distinct_set = record { few = λ x. each x (ℕ_discrete x i) }
    where
      each : (x : ℕ) → Dec (x ≡ i) → total (is x) (set U j i) ≤ 1
      each x (yes e) =
          let sum = total_set (is x) U j i lt in
          let none = total_none (is x) U (λ u m. let l = below u m in is_other x u (λ z. omega arith)) in
          let self : is x i ≡ 1 = rw e (is_self i) in
          omega arith
      each x (no n) =
          let sum = total_set (is x) U j i lt in
          let one = d.few x in
          let other = is_other x i (λ e. n (sym e)) in
          omega arith

-- ---- the ends

-- each tag of U is followed by the end in its slot, numbered from j on
record Ended (c way : ℕ → ℕ → ℕ) (j : ℕ) (U C : List ℕ) : Type 0 where
  pub g : ℕ → ℕ
  pub within : (u : ℕ) → Memᴰ u U → (j ≤ g u) × (g u < j + length C)
  pub once : (e : ℕ) → j ≤ e → e < j + length C → total (follows g e) U ≡ 1
  pub bound : total (λ u. c u (g u)) U ≤ pairing way U C

-- a follower put in at a stop that is no other tag
put_away : (u v : ℕ) (g : ℕ → ℕ) (U : List ℕ) → (Memᴰ u U → ⊥) → (h : ℕ → ℕ → ℕ)
    → total (λ t. h t (put u v g t)) U ≡ total (λ t. h t (g t)) U
put_away u v g U out h =
    total_same _ _ U (λ t m. ap (h t) (put_other u v g t (λ e. out (rw e at m))))

put_follows : (u v : ℕ) (g : ℕ → ℕ) (U : List ℕ) → (Memᴰ u U → ⊥) → (b : ℕ)
    → total (follows (put u v g) b) U ≡ total (follows g b) U
unfolding follows
put_follows u v g U out b = put_away u v g U out (λ t x. cond (eqb x b) 1 0)

ended : (c way : ℕ → ℕ → ℕ) (j : ℕ) (U C : List ℕ) → length U ≡ length C → Distinct U
    → ((u i : ℕ) → Memᴰ u U → i < length C → c u (j + i) ≤ way u (get_or C i 0)) → Ended c way j U C
unfolding total pairing
ended c way j [] [] h d leg =
    record { g = λ u. 0; within = λ u m. absurd (Memᴰ.not-nil m); once = λ e low lt. absurd (omega arith); bound = zero-le }
ended c way j [] (q ∷ C) h d leg = absurd (suc-ne-zero _ (sym h))
ended c way j (u ∷ U) [] h d leg = absurd (suc-ne-zero _ h)
ended c way j (u ∷ U) (q ∷ C) h d leg =
    joined (ended c way (suc j) U C (suc_inj h) (distinct_tail d)
    (λ v i m lt. rw (← move i) (leg v (suc i) (Memᴰ.tail m) (suc-le-suc lt))))
  where
    move : (i : ℕ) → j + suc i ≡ suc j + i
    move i = omega arith

    joined : Ended c way (suc j) U C → Ended c way j (u ∷ U) (q ∷ C)
    joined rest = record {
      g = put u j rest.g;
      within = λ v m. inside v (ℕ_discrete v u) m;
      once = λ e low lt. counts e low lt (ℕ_discrete e j);
      bound =
          let first = rw (add-zero j) at (leg u 0 (Memᴰ.head refl) (suc-le-suc zero-le)) in
          let others = put_away u j rest.g U (distinct_head d) c in
          let here = put_at u j rest.g in
          let more = rest.bound in
          rw here (omega arith);
    }
      where
        inside : (v : ℕ) → Dec (v ≡ u) → Memᴰ v (u ∷ U) → (j ≤ put u j rest.g v) × (put u j rest.g v < j + suc (length C))
        inside v (yes e) m = rw (e, put_at u j rest.g) (le_refl j, omega arith)
        inside v (no n) m =
            let at = rest.within v (⊎_elim (λ (e : v ≡ u). absurd (n e)) (λ k. k) (Memᴰ.cases_cons m)) in
            let low = at.0 in
            let high = at.1 in
            rw (put_other u j rest.g v n) (omega arith, omega arith)

        counts : (e : ℕ) → j ≤ e → e < j + suc (length C) → Dec (e ≡ j) → follows (put u j rest.g) e u + total (follows (put u j rest.g) e) U ≡ 1
        counts e low lt (yes z) =
            let here = follows-at (put u j rest.g) e u (put_at u j rest.g ∙ sym z) in
            let others = put_follows u j rest.g U (distinct_head d) e in
            let none = total_none (follows rest.g e) U (λ t m. let w = (rest.within t m).0 in follows-not rest.g e t (λ y. omega arith)) in
            omega arith
        counts e low lt (no n) =
            let here = follows-not (put u j rest.g) e u (λ y. n (sym y ∙ put_at u j rest.g)) in
            let others = put_follows u j rest.g U (distinct_head d) e in
            let more = rest.once e (omega arith) (omega arith) in
            omega arith

-- ---- the calls

-- followers of the tags T and of the stops from i on, whose calls are rs; N stops in all
record Planning (k N : ℕ) (c : ℕ → ℕ → ℕ) (i : ℕ) (rs T : List ℕ) (most : ℕ) : Type 0 where
  pub g : ℕ → ℕ
  pub tagged : (t : ℕ) → Memᴰ t T → (g t < N) × ((g t < k) ⊎ (i ≤ g t))
  pub later : (p : ℕ) → i ≤ p → p < N → (g p < N) × ((g p < k) ⊎ (p < g p))
  pub once : (b : ℕ) → b < N → (b < k) ⊎ (i ≤ b) → total (follows g b) T + left (follows g b) i rs ≡ 1
  pub bound : total (λ p. c p (g p)) T + left (λ p. c p (g p)) i rs ≤ most

module _ {n : ℕ} {d : ℕ → ℕ → ℕ} (laws : Metric n d) {k N : ℕ} (few : k ≤ N) (stop : ℕ → ℕ) (on : (p : ℕ) → p < N → stop p < n) (c : ℕ → ℕ → ℕ)
    (legs : (p q : ℕ) → k ≤ q → p < q → q < N → c p q ≤ d (stop p) (stop q)) {C : List ℕ} (end : Position n k C)
    (ends : (p e : ℕ) → p < N → e < k → c p e ≤ d (stop p) (get_or C e 0)) where
  abbrev way : ℕ → ℕ → ℕ
  way t p = d (stop t) p

  -- the tags are in another order
  in_order_of : {i most : ℕ} {rs T U : List ℕ} → Permᴰ T U → Planning k N c i rs U most → Planning k N c i rs T most
  in_order_of p h = record {
    g = h.g;
    tagged = λ t m. h.tagged t (in_reordered p m);
    later = h.later;
    once = λ b lt m. rw (total_order (follows h.g b) p) (h.once b lt m);
    bound = rw (total_order (λ q. c q (h.g q)) p) h.bound;
  }

  no_more : {i most more : ℕ} {rs T : List ℕ} → Planning k N c i rs T most → most ≤ more → Planning k N c i rs T more
  no_more h le = record { g = h.g; tagged = h.tagged; later = h.later; once = h.once; bound = le_trans h.bound le }

  -- the last leg of each tag
  last : (U : List ℕ) → Position N k U → Distinct U → Planning k N c N [] U (pairing way U C)
  unfolding left
  last U tags d =
      let e = ended c way 0 U C (together tags end) d
      (λ u i m lt. rw (zero-add i) (ends u i (tags.placed m) (rw (← end.cranes) lt)))
      in
      record {
        g = e.g;
        tagged = λ t m. let w = (e.within t m).1 in let z = end.cranes in (omega arith, inl (omega arith));
        later = λ p low lt. absurd (omega arith);
        once = λ b lt m.
            let low : b < k = ⊎_elim (λ (h : b < k). h) (λ (h : N ≤ b). absurd (omega arith)) m in
            let z = end.cranes in
            let one = e.once b zero-le (omega arith) in
            omega arith;
        bound = let b = e.bound in omega arith;
      }

  -- the call i follows the tag at slot j
  served : {i r most : ℕ} {rs : List ℕ} (U : List ℕ) (j : ℕ) → Position i k U → Distinct U → j < length U → k ≤ i → i + suc (length rs) ≡ N
      → Planning k N c (suc i) rs (set U j i) most → Planning k N c i (r ∷ rs) U (most + c (get_or U j 0) i)
  unfolding left follows
  served {i} {r} {most} {rs} U j tags d lt call all next = record {
    g = g;
    tagged = λ u m. tag u m (ℕ_discrete u t);
    later = λ p low less. after p low less (ℕ_discrete p i);
    once = λ b less m. counts b less m (ℕ_discrete b i);
    bound =
        let sum = total_set (λ p. c p (g p)) U j i lt in
        let same = put_away t i next.g (set U j i) out c in
        let rest = left_same (λ p. c p (g p)) (λ p. c p (next.g p)) (suc i) rs (λ p low. ap (c p) (other p (omega arith))) in
        let at : c t (g t) ≡ c t i = ap (c t) (put_at t i next.g) in
        let b = next.bound in
        omega arith;
  }
    where
      t : ℕ
      t = get_or U j 0

      early : t < i
      early = tags.placed (entry_in U j lt)

      g : ℕ → ℕ
      g = put t i next.g

      out : Memᴰ t (set U j i) → ⊥
      out = set_gone U j lt d (λ u m. tags.placed m)

      other : (p : ℕ) → i ≤ p → g p ≡ next.g p
      other p low = put_other t i next.g p (λ e. let z = early in omega arith)

      followed : (p b : ℕ) → i ≤ p → follows g b p ≡ follows next.g b p
      followed p b low = ap (λ (x : ℕ). cond (eqb x b) 1 0) (other p low)

      tag : (u : ℕ) → Memᴰ u U → Dec (u ≡ t) → (g u < N) × ((g u < k) ⊎ (i ≤ g u))
      tag u m (yes e) = rw (e, put_at t i next.g) (omega arith, inr (le_refl i))
      tag u m (no n) =
          let at = next.tagged u (set_other U j i m n) in
          rw (put_other t i next.g u n) (at.0, ⊎_elim inl (λ h. inr (omega arith)) at.1)

      after : (p : ℕ) → i ≤ p → p < N → Dec (p ≡ i) → (g p < N) × ((g p < k) ⊎ (p < g p))
      after p low less (yes e) = rw (e, other i (le_refl i)) (next.tagged i (set_in U j i lt))
      after p low less (no n) = rw (other p low) (next.later p (omega arith) less)

      counts : (b : ℕ) → b < N → (b < k) ⊎ (i ≤ b) → Dec (b ≡ i) → total (follows g b) U + (follows g b i + left (follows g b) (suc i) rs) ≡ 1
      counts b less m (yes e) =
          let sum = total_set (follows g b) U j i lt in
          let same = put_follows t i next.g (set U j i) out b in
          let here = follows-at g b t (put_at t i next.g ∙ sym e) in
          let none = total_none (follows next.g b) (set U j i) (λ u l. follows-not next.g b u (λ z.
          ⊎_elim (λ (h : next.g u < k). omega arith) (λ (h : suc i ≤ next.g u). omega arith) (next.tagged u l).1))
          in
          let rest = left_none (follows g b) (suc i) rs (λ p low high. rw (followed p b (omega arith)) (follows-not next.g b p (λ z.
          ⊎_elim (λ (h : next.g p < k). omega arith) (λ (h : p < next.g p). omega arith) (next.later p low (omega arith)).1)))
          in
          omega arith
      counts b less m (no n) =
          let sum = total_set (follows g b) U j i lt in
          let same = put_follows t i next.g (set U j i) out b in
          let here = follows-not g b t (λ z. n (sym z ∙ put_at t i next.g)) in
          let rest = left_same (follows g b) (follows next.g b) (suc i) rs (λ p low. followed p b (omega arith)) in
          let one = next.once b less (⊎_elim inl (λ h. inr (omega arith)) m) in
          omega arith

  planning : {i : ℕ} {rs T P : List ℕ} {M : List (List ℕ)} → Run stop i rs → Movement n k rs M → Position i k T → Distinct T → Position n k P
      → k ≤ i → i + length rs ≡ N → Planning k N c i rs T (cost d P M C + pairing way T P)
  unfolding cost
  planning {i} {T = T} {P} over Forall₂.nil tags apart at call all =
      let whole : i ≡ N = sym (add-zero i) ∙ all in
      let within : Position N k T = rw whole at tags in
      let to = along laws stop on T P C within at end in
      let d = last to.0 (position_order to.1 within) (distinct_order to.1 apart) in
      let far = to.2 in
      rw whole (in_order_of to.1 (no_more d (omega arith)))
  planning {i} {T = T} {P} (then {rs = rs} here run) (Forall₂.cons {b = Q} {l₂ = M} h more) tags apart at call all =
      let to = along laws stop on T P Q (tags_within (omega arith) tags) at h.0 in
      let U = to.0 in
      let moved : Position i k U = position_order to.1 tags in
      let slot = slot_of h.1 in
      let j = slot.0 in
      let same : length U ≡ length Q = together moved h.0 in
      let lt : j < length U = rw same slot.1 in
      let alone = distinct_order to.1 apart in
      let next = planning run more (tags_set U j moved) (distinct_set U j lt alone (λ u m. moved.placed m)) h.0 (omega arith) (omega arith) in
      let leg = legs (get_or U j 0) i call (moved.placed (entry_in U j lt)) (omega arith) in
      let arrived = rw (slot.2 ∙ sym here, laws.self (stop i) (on i (omega arith))) at (pairing-set way U Q j i lt same) in
      let far = to.2 in
      in_order_of to.1 (no_more (served U j moved alone lt call all next) (omega arith))

-- ---- from the starts on

sum_is_none : (n x : ℕ) → n ≤ x → sum_below n (is x) ≡ 0
unfolding sum_below
sum_is_none zero x h = refl
sum_is_none (suc n) x h = rw (sum_is_none n x (omega arith), is_other x n (λ e. omega arith))

sum_is_most : (n x : ℕ) → sum_below n (is x) ≤ 1
unfolding sum_below
sum_is_most zero x = zero-le
sum_is_most (suc n) x = pick (ℕ_discrete n x) (sum_is_most n x)
  where
    pick : Dec (n ≡ x) → sum_below n (is x) ≤ 1 → sum_below n (is x) + is x n ≤ 1
    pick (yes e) h = rw (sum_is_none n x (rw e (le_refl x)), e, is_self x) (le_refl 1)
    pick (no m) h = rw (is_other x n m) (omega arith)

first_distinct : (k : ℕ) → Distinct (first_tags k)
unfolding first_tags
first_distinct k = record { few = λ x. rw (total_up_to (is x) k (λ p. p)) (sum_is_most k x) }

first_in : (k p : ℕ) → p < k → Memᴰ p (first_tags k)
unfolding first_tags
first_in k p h = up_to_in k (λ p. p) p h

-- the followers of all stops are a plan
module _ (starts calls : List ℕ) {c : ℕ → ℕ → ℕ} {most : ℕ}
    (found : Planning (length starts) (stops starts calls) c (length starts) calls (first_tags (length starts)) most) where
  planned_plan : Plan (length starts) (stops starts calls) found.g
  planned_plan = record {
    below = λ p lt. (each p lt (dec_lt p (length starts))).0;
    may = λ p lt. (each p lt (dec_lt p (length starts))).1;
    once = λ b lt. sym (all_stops starts calls (follows found.g b)) ∙ found.once b lt (side b (dec_lt b (length starts)));
  }
    where
      side : (b : ℕ) → Dec (b < length starts) → (b < length starts) ⊎ (length starts ≤ b)
      side b (yes h) = inl h
      side b (no n) = inr (omega arith)

      each : (p : ℕ) → p < stops starts calls → Dec (p < length starts)
          → (found.g p < stops starts calls) × ((found.g p < length starts) ⊎ (p < found.g p))
      each p lt (yes h) =
          let at = found.tagged p (first_in (length starts) p h) in (at.0, ⊎_elim inl (λ l. inr (omega arith)) at.1)
      each p lt (no n) = found.later p (omega arith) lt

  planned_cost : plan_cost (stops starts calls) c found.g ≤ most
  unfolding plan_cost
  planned_cost = rw (← all_stops starts calls (λ p. c p (found.g p))) found.bound

-- Every movement has a plan with the same end that costs no more, where no leg costs more than its distance.
pub plan_below : {n : ℕ} {d : ℕ → ℕ → ℕ} {starts calls C : List ℕ} (c : ℕ → ℕ → ℕ) {M : List (List ℕ)} → Metric n d
    → Instance n starts calls → Position n (length starts) C
    → ((p b : ℕ) → length starts ≤ b → p < b → b < stops starts calls → c p b ≤ d (place starts calls p) (place starts calls b))
    → ((p e : ℕ) → p < stops starts calls → e < length starts → c p e ≤ d (place starts calls p) (get_or C e 0))
    → Movement n (length starts) calls M
    → (f : ℕ → ℕ) × Plan (length starts) (stops starts calls) f × (plan_cost (stops starts calls) c f ≤ cost d starts M C)
plan_below {d = d} {starts} {calls} {C} c laws day end legs ends moves =
    let k = length starts in
    let found = planning laws (omega arith) (place starts calls) (stop_placed day) c legs end ends (run_calls starts calls) moves (first_tags_lem k)
    (first_distinct k) day.started (le_refl k) refl
    in
    let still = unmoved laws starts (λ p m. day.started.placed m) in
    let begin = sym (pairing-map d (place starts calls) (first_tags k) starts) ∙ ap (λ T. pairing d T starts) (first_places starts calls) in
    let least = planned_cost starts calls found in
    (found.g, planned_plan starts calls found, omega arith)
