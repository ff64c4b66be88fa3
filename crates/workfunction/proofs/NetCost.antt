-- What net costs are worth: the plan with the follower of a stop freed costs the kept plan's cost plus that stop's net cost,
-- and weights taken from the net costs vouch for it. So net costs tell w once a crane stands at the new call. Assumes nothing.
use Prim.Native.Nat.{ℕ, ◌+◌, ◌-◌, ◌*◌, ◌<◌, ◌≤◌}
use mathlib.Core.Bool.{true, cond}
use mathlib.Core.List.{List, [], ◌∷◌, ◌++◌}
use mathlib.Core.Logic.{◌⊎◌, inl, inr, ⊎_elim}
use mathlib.Core.Path.{◌≡◌, refl, sym, ap, subst, ◌∙◌}
use borrow.Author.Tests.{eq-eqb, ne_eqb}
use lib.Dec.{eqb}
use lib.IntN.{ℤ, pos, ◌-ℤ◌, +ℤ_invr}
use lib.ListN.{length}
use native.Mathlib.Decide.{ℕ_discrete}
use native.Mathlib.Nat.{mul-suc, le_refl, le-add_right, mul-le-mul_left, le_of_lt, lt_irrefl, eq-or-lt_of_le}
use native.Mathlib.Omega.{arith}
use Rattle.base.specs.Metric.{Metric}
use Rattle.base.proofs.Signed.{plus, minus, plus_difference}
use Rattle.workfunction.specs.Lists.{sum_below}
use Rattle.workfunction.specs.NetCost.{StopNets, Flipped}
use Rattle.workfunction.specs.Plan.{follows, plan_cost, vouch_rule, stops, place, leg_cost}
use Rattle.workfunction.specs.Position.{Position}
use Rattle.workfunction.specs.Movement.{Instance, work}
use Rattle.workfunction.specs.Choice.{moved}
use Rattle.workfunction.proofs.Flip.{by_parents, flipped_for}
use Rattle.workfunction.proofs.Movement.{instance_then}
use Rattle.workfunction.proofs.Plan.{Plan, follows-at, follows-not, same-follows, Vouched, vouch_rule_lem, stop_before, stop_only, followers_sum}
use Rattle.workfunction.proofs.Position.{position_set}
use Rattle.workfunction.proofs.Stops.{stop_placed, follower_placed, stops_more, place_last, place_early, place-crane, place_others}
use Rattle.workfunction.proofs.Witness.{plan_work}
use Rattle.workfunction.proofs.Sums.{sum_same, sum_plus, sum-at, sum_last, sum-zero, sum_one, put, put_at, put_other}

-- the value of the stop that b follows
before : ℕ → (ℕ → ℕ) → (ℕ → ℕ) → ℕ → ℕ
before N f v b = sum_below N (λ q. cond (eqb (f q) b) (v q) 0)

before_follower : {k N : ℕ} {f : ℕ → ℕ} → Plan k N f → (v : ℕ → ℕ) (q : ℕ) → q < N → before N f v (f q) ≡ v q
unfolding before
before_follower {N = N} {f} plan v q h =
    sum_same N (λ p. cond (eqb (f p) (f q)) (v p) 0) (λ p. cond (eqb q p) (v p) 0) (λ p lt. pick p lt (ℕ_discrete q p)) ∙ sum_one N q v h
  where
    pick : (p : ℕ) → p < N → Dec (q ≡ p) → cond (eqb (f p) (f q)) (v p) 0 ≡ cond (eqb q p) (v p) 0
    pick p lt (yes e) = rw (eq-eqb q p e, e, eq-eqb (f p) (f p) refl)
    pick p lt (no n) = rw (ne_eqb q p n, ne_eqb (f p) (f q) (λ e. n (sym (stop_only plan p q lt h e))))

-- the costs of legs c' where crane s stands at the new call N, by those before
pub record Arrived (N s : ℕ) (c c' : ℕ → ℕ → ℕ) : Type 0 where
  pub others : (p b : ℕ) → (b ≡ s → ⊥) → c' p b ≡ c p b
  pub there : (p : ℕ) → c' p s ≡ c p N

-- what the costs of the legs to and from N keep of a metric
record Metred (N : ℕ) (c : ℕ → ℕ → ℕ) : Type 0 where
  still : c N N ≡ 0
  triangle : (p b : ℕ) → p < N → b ≤ N → c p b ≤ c p N + c N b

-- a plan in which N follows itself
module _ {k N : ℕ} {f : ℕ → ℕ} (plan : Plan k N f) (self : f N ≡ N) where
  pub follower_on : (p : ℕ) → p ≤ N → f p < N + 1
  follower_on p h =
      ⊎_elim (λ (e : p ≡ N). rw (e, self) (omega arith)) (λ (lt : p < N). let on = plan.below p lt in omega arith) (eq-or-lt_of_le h)

  -- N taken in, f is a plan where any follower may follow any stop
  pub whole : Plan (N + 1) (N + 1) f
  unfolding follows
  whole =
      record {
        below = λ p h. follower_on p (omega arith);
        may = λ p h. inl (follower_on p (omega arith));
        once = λ b h. sum_last N (follows f b) ∙ count b (omega arith);
      }
    where
      count : (b : ℕ) → b ≤ N → sum_below N (follows f b) + follows f b N ≡ 1
      count b h =
          let none : b ≡ N → sum_below N (follows f b) ≡ 0 =
          λ e. sum_same N (follows f b) (λ p. 0) (λ p lt. let on = plan.below p lt in rw (ne_eqb (f p) b (omega arith))) ∙ sum-zero N
          in
          ⊎_elim (λ (e : b ≡ N). rw (none e, self, eq-eqb N b (sym e))) (λ (lt : b < N). rw (plan.once b lt, self, ne_eqb N b (omega arith)))
          (eq-or-lt_of_le h)

  -- what holds of the followers of all stops holds of all followers
  pub by_stops : (P : ℕ → Type 0) → ((q : ℕ) → q ≤ N → P (f q)) → (b : ℕ) → b < N + 1 → P b
  by_stops P each b h =
      let found = stop_before whole b h in
      let lt = found.1 in
      subst P found.2 (each found.0 (omega arith))

module _ {k N base : ℕ} {f : ℕ → ℕ} {c : ℕ → ℕ → ℕ} {net parent rank : ℕ → ℕ} (plan : Plan k N f) (self : f N ≡ N)
    (costs : StopNets k N base f c net parent rank) where
  -- the same over legs that cost the same
  pub nets_over : {c' : ℕ → ℕ → ℕ} → ((p b : ℕ) → p ≤ N → b ≤ N → c p b ≡ c' p b) → StopNets k N base f c' net parent rank
  nets_over {c'} same = record {
    source = costs.source;
    least = λ p q lt le may.
        let own = leg p p (le_of_lt lt) (le_of_lt lt) in
        let other = leg p q (le_of_lt lt) le in
        let least = costs.least p q lt le may in
        omega arith;
    attained = λ p lt.
        let own = leg p p (le_of_lt lt) (le_of_lt lt) in
        let other = leg p (parent p) (le_of_lt lt) (costs.chains.below p lt) in
        let attained = costs.attained p lt in
        omega arith;
    allowed = costs.allowed;
    chains = costs.chains;
    ranked = costs.ranked;
  }
    where
      leg : (p q : ℕ) → p ≤ N → q ≤ N → c p (f q) ≡ c' p (f q)
      leg p q h hq = let on = follower_on plan self q hq in same p (f q) h (omega arith)

  -- the net cost of the stop that b follows
  net_before : ℕ → ℕ
  net_before = before (N + 1) f net

  net_before_lem : (q : ℕ) → q ≤ N → net_before (f q) ≡ net q
  unfolding net_before
  net_before_lem q h = before_follower (whole plan self) net q (omega arith)

  net_source : net_before N ≡ base
  net_source = subst (λ (b : ℕ). net_before b ≡ base) self (net_before_lem N (le_refl N) ∙ costs.source)

  -- a weight that is base less v, in parts
  weight_parts : (y : ℕ → ℤ) (v : ℕ → ℕ) (b : ℕ) → y b ≡ pos base -ℤ pos (v b) → plus (y b) + v b ≡ base + minus (y b)
  unfolding plus minus
  weight_parts y v b weighed = let difference = plus_difference (pos base) (pos (v b)) in rw weighed (omega arith)

  -- no net cost is above that of taking N at once
  taking_new : (p : ℕ) → p < N → net p + c p (f p) ≤ base + c p N
  taking_new p h =
      subst (λ (b : ℕ). net p + c p (f p) ≤ base + c p b) self
      (rw (← costs.source) (costs.least p N h (le_refl N) (inr (rw self h))))

  -- the limits of net costs where no leg is longer than `most`
  module _ (most : ℕ) (short : (p b : ℕ) → p ≤ N → b ≤ N → c p b ≤ most) where
    pub net_most : (p : ℕ) → p ≤ N → net p ≤ base + most
    net_most p h =
        ⊎_elim (λ (e : p ≡ N). rw (e, costs.source) (le-add_right base most))
        (λ (lt : p < N). let once = taking_new p lt in let leg = short p N h (le_refl N) in omega arith) (eq-or-lt_of_le h)

    -- a net cost is below its parent's by a leg at most
    pub net_ranked : (p : ℕ) → p ≤ N → base ≤ net p + most * rank p
    net_ranked = by_parents costs.chains (λ p. base ≤ net p + most * rank p) (rw costs.source (le-add_right base (most * rank N))) step
      where
        step : (p : ℕ) → p < N → base ≤ net (parent p) + most * rank (parent p) → base ≤ net p + most * rank p
        step p lt before =
            let attained = costs.attained p lt in
            let leg = short p (f p) (le_of_lt lt) (le_of_lt (plan.below p lt)) in
            let more = mul-suc most (rank (parent p)) in
            let up = mul-le-mul_left most (costs.chains.earlier p lt) in
            omega arith

    pub net_least : (p : ℕ) → p ≤ N → base ≤ net p + most * N
    net_least p h = let low = net_ranked p h in let high = mul-le-mul_left most (costs.ranked p h) in omega arith

  module _ {t : ℕ} {g : ℕ → ℕ} (tlt : t < N) (stand : f t < k) (flipped : Flipped N f parent t g) where
    pub flipped_plan : Plan k (N + 1) g
    flipped_plan =
        record {
          below = λ p h. (fits p (omega arith)).0;
          may = λ p h. (fits p (omega arith)).1;
          once = λ b h. flipped.counts b ∙ (whole plan self).once b h;
        }
      where
        Fits : ℕ → ℕ → Type 0
        Fits p b = (b < N + 1) × ((b < k) ⊎ (p < b))

        early : (p : ℕ) → p < N → Fits p (g p)
        early p h =
            ⊎_elim (λ (e : g p ≡ f p). rw e (follower_on plan self p (le_of_lt h), plan.may p h))
            (λ (e : g p ≡ f (parent p)). rw e (follower_on plan self (parent p) (costs.chains.below p h), costs.allowed p h))
            (flipped.taken p h)

        fits : (p : ℕ) → p ≤ N → Fits p (g p)
        fits p h =
            ⊎_elim (λ (e : p ≡ N). rw (e, flipped.freed) (follower_on plan self t (le_of_lt tlt), inl stand)) (early p) (eq-or-lt_of_le h)

    -- every leg costs what the kept plan's does and the difference of the net costs
    leg_net : (p : ℕ) → p < N → net_before (g p) + c p (g p) ≡ net p + c p (f p)
    leg_net p h =
        ⊎_elim (λ (e : g p ≡ f p). rw (e, net_before_lem p (le_of_lt h)))
        (λ (e : g p ≡ f (parent p)). rw (e, net_before_lem (parent p) (costs.chains.below p h)) (sym (costs.attained p h)))
        (flipped.taken p h)

    pub flipped_cost : plan_cost N c g + base ≡ plan_cost N c f + net t
    unfolding plan_cost
    flipped_cost =
        let each = sum_same N (λ p. net_before (g p) + c p (g p)) (λ p. net p + c p (f p)) leg_net in
        let left = sum_plus N (λ p. net_before (g p)) (λ p. c p (g p)) in
        let right = sum_plus N net (λ p. c p (f p)) in
        let mine = followers_sum (whole plan self) net_before in
        let theirs = followers_sum flipped_plan net_before in
        let nets = sum_same (N + 1) (λ p. net_before (f p)) net (λ p h. net_before_lem p (omega arith)) in
        let one = sum_last N (λ p. net_before (g p)) in
        let other = sum_last N net in
        let end : net_before (g N) ≡ net t = rw flipped.freed (net_before_lem t (le_of_lt tlt)) in
        let source = costs.source in
        omega arith

    -- v is lowest, with the leg to it, at the follower that each stop takes: then weights of base less v vouch
    module _ (c' : ℕ → ℕ → ℕ) (v : ℕ → ℕ)
        (lowest : (p b : ℕ) → p < N + 1 → b < N + 1 → (b < k) ⊎ (p < b) → v (g p) + c' p (g p) ≤ v b + c' p b) where
      lowest_vouched : Vouched k (N + 1) g c' (λ b. sum_below (N + 1) v - v b)
      lowest_vouched = record { vouch = each }
        where
          each : (p b : ℕ) → p < N + 1 → b < N + 1 → (b < k) ⊎ (p < b)
              → sum_below (N + 1) v - v b + c' p (g p) ≤ sum_below (N + 1) v - v (g p) + c' p b
          each p b h hb m =
              let least = lowest p b h hb m in
              let one = sum-at (N + 1) v b hb in
              let other = sum-at (N + 1) v (g p) (flipped_plan.below p h) in
              omega arith

      -- the same as signed numbers
      lowest_rule : (y : ℕ → ℤ) → ((q : ℕ) → q ≤ N → y (f q) ≡ pos base -ℤ pos (v (f q))) → vouch_rule k (N + 1) g c' y ≡ true
      unfolding plus minus
      lowest_rule y weighed = vouch_rule_lem g c' y each
        where
          parts : (b : ℕ) → b < N + 1 → plus (y b) + v b ≡ base + minus (y b)
          parts = by_stops plan self (λ b. plus (y b) + v b ≡ base + minus (y b)) (λ q hq. weight_parts y v (f q) (weighed q hq))

          each : (p b : ℕ) → p < N + 1 → b < N + 1 → (b < k) ⊎ (p < b)
              → plus (y b) + minus (y (g p)) + c' p (g p) ≤ plus (y (g p)) + minus (y b) + c' p b
          each p b h hb m =
              let least = lowest p b h hb m in
              let one = parts b hb in
              let other = parts (g p) (flipped_plan.below p h) in
              omega arith

    -- ---- N stays, followed by an end that stays too: by no law of a metric, where no end has less of net cost and way from N together

    module _ (least : (q : ℕ) → q ≤ N → f q < k → net t + c N (f t) ≤ net q + c N (f q)) where
      stayed_before : (p q : ℕ) → p ≤ N → q ≤ N → (f q < k) ⊎ (p < f q) → net_before (g p) + c p (g p) ≤ net_before (f q) + c p (f q)
      stayed_before p q h hq m = ⊎_elim last early (eq-or-lt_of_le h)
        where
          early : p < N → net_before (g p) + c p (g p) ≤ net_before (f q) + c p (f q)
          early less = rw (leg_net p less, net_before_lem q hq) (costs.least p q less hq m)

          last : p ≡ N → net_before (g p) + c p (g p) ≤ net_before (f q) + c p (f q)
          last z =
              let on = follower_on plan self q hq in
              let end : f q < k = ⊎_elim (λ (end : f q < k). end) (λ (l : p < f q). absurd (omega arith)) m in
              rw (z, flipped.freed, net_before_lem t (le_of_lt tlt), net_before_lem q hq) (least q hq end)

      stayed_follower : (p b : ℕ) → p < N + 1 → b < N + 1 → (b < k) ⊎ (p < b) → net_before (g p) + c p (g p) ≤ net_before b + c p b
      stayed_follower p b h =
          by_stops plan self (λ b. (b < k) ⊎ (p < b) → net_before (g p) + c p (g p) ≤ net_before b + c p b)
          (λ q hq. stayed_before p q (omega arith) hq) b

      pub stayed_rule : (y : ℕ → ℤ) → ((q : ℕ) → q ≤ N → y (f q) ≡ pos base -ℤ pos (net q)) → vouch_rule k (N + 1) g c y ≡ true
      stayed_rule y weighed = lowest_rule c net_before stayed_follower y (λ q hq. rw (net_before_lem q hq) (weighed q hq))

    -- ---- crane s goes to the call

    module _ {s : ℕ} {c' : ℕ → ℕ → ℕ} (serves : f t ≡ s) (arrived : Arrived N s c c') where
      -- the weight of b is base less this: the net cost of the stop before b, and base for s
      new_before : ℕ → ℕ
      new_before = put s base net_before

      new_other : (p b : ℕ) → (b ≡ s → ⊥) → new_before b + c' p b ≡ net_before b + c p b
      unfolding new_before
      new_other p b away = rw (put_other s base net_before b away, arrived.others p b away)

      new_crane : (p : ℕ) → new_before s + c' p s ≡ base + c p N
      unfolding new_before
      new_crane p = rw (put_at s base net_before, arrived.there p)

      -- s follows N only
      flipped_other : (p : ℕ) → p < N → g p ≡ s → ⊥
      flipped_other p h e =
          let same = stop_only flipped_plan p N (omega arith) (omega arith) (e ∙ sym (flipped.freed ∙ serves)) in
          omega arith

      -- the weights of all followers, as signed numbers
      new_weighed : (y : ℕ → ℤ) → y s ≡ pos 0 → ((q : ℕ) → q ≤ N → (f q ≡ s → ⊥) → y (f q) ≡ pos base -ℤ pos (net q))
          → (q : ℕ) → q ≤ N → y (f q) ≡ pos base -ℤ pos (new_before (f q))
      unfolding new_before
      new_weighed y zero rest q hq = weighed (ℕ_discrete (f q) s)
        where
          weighed : Dec (f q ≡ s) → y (f q) ≡ pos base -ℤ pos (new_before (f q))
          weighed (yes e) = rw (e, put_at s base net_before) (zero ∙ sym (+ℤ_invr (pos base)))
          weighed (no n) = rw (put_other s base net_before (f q) n, net_before_lem q hq) (rest q hq n)

      -- a stop before N, against the follower of a stop q
      early_before : (p q : ℕ) → p < N → q ≤ N → (f q < k) ⊎ (p < f q) → net p + c p (f p) ≤ new_before (f q) + c' p (f q)
      early_before p q less hq m = pick (ℕ_discrete (f q) s)
        where
          pick : Dec (f q ≡ s) → net p + c p (f p) ≤ new_before (f q) + c' p (f q)
          pick (yes e) = rw (e, new_crane p) (taking_new p less)
          pick (no n) = rw (new_other p (f q) n, net_before_lem q hq) (costs.least p q less hq m)

      -- ---- N goes again, and the stop that it followed is followed by s: the end s is moved to N's place, by no law of a metric

      module _ {h : ℕ → ℕ} (renamed : (p : ℕ) → p < N → ((g p ≡ N → ⊥) × (h p ≡ g p)) ⊎ ((g p ≡ N) × (h p ≡ s))) where
        moved_may : (p : ℕ) → p < N → (h p < N) × ((h p < k) ⊎ (p < h p))
        moved_may p lt =
            ⊎_elim (λ (e : (g p ≡ N → ⊥) × (h p ≡ g p)).
            let on = flipped_plan.below p (omega arith) in
            let away = e.0 in
            rw e.1 (omega arith, flipped_plan.may p (omega arith)))
            (λ (e : (g p ≡ N) × (h p ≡ s)). rw (e.1, ← serves) (plan.below t tlt, inl stand)) (renamed p lt)

        moved_counts : (b : ℕ) → b < N → Dec (b ≡ s) → sum_below N (follows h b) ≡ 1
        moved_counts b lt (yes e) =
            let last = sum_last N (follows g N) in
            let once = flipped_plan.once N (omega arith) in
            let other = follows-not g N N (λ z. let own = plan.below t tlt in let freed = flipped.freed in omega arith) in
            sum_same N (follows h b) (follows g N) (λ p l.
            ⊎_elim (λ (z : (g p ≡ N → ⊥) × (h p ≡ g p)).
            follows-not h b p (λ w. flipped_other p l (sym z.1 ∙ w ∙ e)) ∙ sym (follows-not g N p z.0))
            (λ (z : (g p ≡ N) × (h p ≡ s)). follows-at h b p (z.1 ∙ sym e) ∙ sym (follows-at g N p z.0)) (renamed p l))
            ∙ omega arith
        moved_counts b lt (no n) =
            let last = sum_last N (follows g b) in
            let once = flipped_plan.once b (omega arith) in
            let other = follows-not g b N (λ z. n (sym z ∙ flipped.freed ∙ serves)) in
            sum_same N (follows h b) (follows g b) (λ p l.
            ⊎_elim (λ (z : (g p ≡ N → ⊥) × (h p ≡ g p)). same-follows h g b p z.1)
            (λ (z : (g p ≡ N) × (h p ≡ s)). follows-not h b p (λ w. n (sym w ∙ z.1)) ∙ sym (follows-not g b p (λ w. let v = z.0 in omega arith)))
            (renamed p l))
            ∙ omega arith

        pub moved_plan : Plan k N h
        moved_plan =
            record {
              below = λ p lt. (moved_may p lt).0;
              may = λ p lt. (moved_may p lt).1;
              once = λ b lt. moved_counts b lt (ℕ_discrete b s);
            }

        -- what a stop's leg costs with the weight of its follower
        moved_held : (p : ℕ) → p < N → new_before (h p) + c' p (h p) ≡ net p + c p (f p)
        moved_held p lt =
            ⊎_elim (λ (e : (g p ≡ N → ⊥) × (h p ≡ g p)). rw e.1 (new_other p (g p) (flipped_other p lt) ∙ leg_net p lt))
            (λ (e : (g p ≡ N) × (h p ≡ s)).
            let held = rw (e.0, net_source) at (leg_net p lt) in
            rw e.1 (new_crane p ∙ held))
            (renamed p lt)

        pub moved_rule : (y : ℕ → ℤ) → y s ≡ pos 0 → ((q : ℕ) → q ≤ N → (f q ≡ s → ⊥) → y (f q) ≡ pos base -ℤ pos (net q))
            → vouch_rule k N h c' y ≡ true
        unfolding plus minus
        moved_rule y zero rest = vouch_rule_lem h c' y each
          where
            parts : (b : ℕ) → b < N → plus (y b) + new_before b ≡ base + minus (y b)
            parts b lt =
                let found = stop_before plan b lt in
                subst (λ (a : ℕ). plus (y a) + new_before a ≡ base + minus (y a)) found.2
                (weight_parts y new_before (f found.0) (new_weighed y zero rest found.0 (le_of_lt found.1)))

            each : (p b : ℕ) → p < N → b < N → (b < k) ⊎ (p < b)
                → plus (y b) + minus (y (h p)) + c' p (h p) ≤ plus (y (h p)) + minus (y b) + c' p b
            each p b lt less m =
                let found = stop_before plan b less in
                let least = rw found.2 at (early_before p found.0 lt (le_of_lt found.1) (rw found.2 m)) in
                let held = moved_held p lt in
                let one = parts b less in
                let other = parts (h p) (moved_plan.below p lt) in
                omega arith

      -- ---- N stays, with crane s there

      module _ (near : Metred N c) where
        -- the cost with N's own leg
        arrived_cost : plan_cost (N + 1) c' g + base ≡ plan_cost N c f + net t
        unfolding plan_cost
        arrived_cost =
            let early = sum_same N (λ p. c' p (g p)) (λ p. c p (g p)) (λ p h. arrived.others p (g p) (flipped_other p h)) in
            let last = sum_last N (λ p. c' p (g p)) in
            let none : c' N (g N) ≡ 0 = rw (flipped.freed, serves) (arrived.there N ∙ near.still) in
            let cost = flipped_cost in
            omega arith

        -- the last stop of some chain takes N
        some_last : (p : ℕ) × (p < N) × (net p + c p (f p) ≡ base + c p N)
        some_last = by_parents costs.chains (λ p. p < N → Last) (λ h. absurd (lt_irrefl N h)) (λ p h more _. step p h more) t (le_of_lt tlt) tlt
          where
            Last : Type 0
            Last = (p : ℕ) × (p < N) × (net p + c p (f p) ≡ base + c p N)

            step : (p : ℕ) → p < N → (parent p < N → Last) → Last
            step p h more =
                ⊎_elim (λ (e : parent p ≡ N). (p, h, costs.attained p h ∙ rw (e, self, costs.source))) more (eq-or-lt_of_le (costs.chains.below p h))

        -- the net cost of the stop before a stand is below base by the way from N to the stand at most
        base_low : (q : ℕ) → q ≤ N → f q < k → base ≤ net q + c N (f q)
        base_low q h end =
            let last = some_last in
            let p = last.0 in
            let attained = last.2 in
            let least = costs.least p q last.1 h (inl end) in
            let on = follower_on plan self q h in
            let way = near.triangle p (f q) last.1 (omega arith) in
            omega arith

        -- against the follower of a stop q
        least_before : (p q : ℕ) → p ≤ N → q ≤ N → (f q < k) ⊎ (p < f q) → new_before (g p) + c' p (g p) ≤ new_before (f q) + c' p (f q)
        least_before p q h hq m = ⊎_elim last early (eq-or-lt_of_le h)
          where
            early : p < N → new_before (g p) + c' p (g p) ≤ new_before (f q) + c' p (f q)
            early less = rw (new_other p (g p) (flipped_other p less), leg_net p less) (early_before p q less hq m)

            last : p ≡ N → new_before (g p) + c' p (g p) ≤ new_before (f q) + c' p (f q)
            last z = rw (z, flipped.freed, serves) (pick (ℕ_discrete (f q) s))
              where
                pick : Dec (f q ≡ s) → new_before s + c' N s ≤ new_before (f q) + c' N (f q)
                pick (yes e) = rw e (le_refl _)
                pick (no n) =
                    let on = follower_on plan self q hq in
                    let low = base_low q hq (⊎_elim (λ (end : f q < k). end) (λ (l : p < f q). absurd (omega arith)) m) in
                    rw (new_crane N, near.still, new_other N (f q) n, net_before_lem q hq) (omega arith)

        least_follower : (p b : ℕ) → p < N + 1 → b < N + 1 → (b < k) ⊎ (p < b) → new_before (g p) + c' p (g p) ≤ new_before b + c' p b
        least_follower p b h =
            by_stops plan self (λ b. (b < k) ⊎ (p < b) → new_before (g p) + c' p (g p) ≤ new_before b + c' p b)
            (λ q hq. least_before p q (omega arith) hq) b

        flipped_vouched : Vouched k (N + 1) g c' (λ b. sum_below (N + 1) new_before - new_before b)
        flipped_vouched = lowest_vouched c' new_before least_follower

        -- the same as signed numbers
        flipped_vouch : (y : ℕ → ℤ) → y s ≡ pos 0 → ((q : ℕ) → q ≤ N → (f q ≡ s → ⊥) → y (f q) ≡ pos base -ℤ pos (net q))
            → vouch_rule k (N + 1) g c' y ≡ true
        flipped_vouch y zero rest = lowest_rule c' new_before least_follower y (new_weighed y zero rest)

-- ---- legs between places

module _ {n : ℕ} (d : ℕ → ℕ → ℕ) (starts calls : List ℕ) {stands : List ℕ} (standing : Position n (length starts) stands) (r : ℕ) where
  follower_last : place stands (calls ++ (r ∷ [])) (stops starts calls) ≡ r
  follower_last = rw (← standing.cranes) (place_last stands calls r)

  -- with crane s at the call
  pub arrived_at : (s : ℕ) → s < length starts
      → Arrived (stops starts calls) s (leg_cost d starts (calls ++ (r ∷ [])) stands) (leg_cost d starts (calls ++ (r ∷ [])) (moved stands r s))
  unfolding leg_cost
  arrived_at s h =
      let crane : s < length stands = rw standing.cranes h in
      record {
        others = λ p b away. ap (d (place starts (calls ++ (r ∷ [])) p)) (place_others stands (calls ++ (r ∷ [])) r s b crane away);
        there = λ p. ap (d (place starts (calls ++ (r ∷ [])) p)) (place-crane stands (calls ++ (r ∷ [])) r s crane ∙ sym follower_last);
      }

  -- the legs between the stops before the call, whatever the call
  pub leg_before : (p b : ℕ) → p < stops starts calls → b < stops starts calls
      → leg_cost d starts (calls ++ (r ∷ [])) stands p b ≡ leg_cost d starts calls stands p b
  unfolding leg_cost
  leg_before p b h l = rw (place_early starts calls r p h, place_early stands calls r b (rw standing.cranes l))

-- ---- the work function

module _ {n : ℕ} {d : ℕ → ℕ → ℕ} (laws : Metric n d) {starts calls stands : List ℕ} (day : Instance n starts calls)
    (standing : Position n (length starts) stands) {r : ℕ} (asked : r < n) where
  one_more : stops starts calls + 1 ≡ stops starts (calls ++ (r ∷ []))
  one_more = stops_more starts calls r

  metred : Metred (stops starts calls) (leg_cost d starts (calls ++ (r ∷ [])) stands)
  unfolding leg_cost
  metred =
      record {
        still = rw (place_last starts calls r, follower_last d starts calls standing r) (laws.self r asked);
        triangle = λ p b lt le.
            rw (place_last starts calls r, follower_last d starts calls standing r)
            (laws.triangle (place starts (calls ++ (r ∷ [])) p) r (place stands (calls ++ (r ∷ [])) b)
            (stop_placed (instance_then day asked) p (rw (← one_more) (omega arith))) asked (follower_placed (instance_then day asked) standing b (rw (← one_more) (omega arith))));
      }

  module _ {base : ℕ} {f net parent rank : ℕ → ℕ} (plan : Plan (length starts) (stops starts calls) f)
      (self : f (stops starts calls) ≡ stops starts calls)
      (costs : StopNets (length starts) (stops starts calls) base f (leg_cost d starts (calls ++ (r ∷ [])) stands) net parent rank) where
    -- the legs of the kept plan cost what they did before the call
    early_cost : plan_cost (stops starts calls) (leg_cost d starts (calls ++ (r ∷ [])) stands) f
        ≡ plan_cost (stops starts calls) (leg_cost d starts calls stands) f
    unfolding plan_cost
    early_cost = sum_same (stops starts calls) _ _ (λ p h. leg_before d starts calls standing r p (f p) h (plan.below p h))

    module _ (t s : ℕ) (lt : t < stops starts calls) (stand : s < length starts) (serves : f t ≡ s) where
      crane : f t < length starts
      crane = rw serves stand

      module _ {g : ℕ → ℕ} (flipped : Flipped (stops starts calls) f parent t g) where
        -- the flipped plan with crane s at the call: the weights, base less the net cost of the stop before and 0 for s, vouch for
        -- it, and it costs w
        pub flipped_rule : (y : ℕ → ℤ) → y s ≡ pos 0
            → ((q : ℕ) → q ≤ stops starts calls → (f q ≡ s → ⊥) → y (f q) ≡ pos base -ℤ pos (net q))
            → vouch_rule (length starts) (stops starts calls + 1) g (leg_cost d starts (calls ++ (r ∷ [])) (moved stands r s)) y ≡ true
        flipped_rule = flipped_vouch plan self costs lt crane flipped serves (arrived_at d starts calls standing r s stand) metred

        pub flipped_work : plan_cost (stops starts calls + 1) (leg_cost d starts (calls ++ (r ∷ [])) (moved stands r s)) g
            ≡ work d n starts (calls ++ (r ∷ [])) (moved stands r s)
        flipped_work =
            let planned = rw one_more at (flipped_plan plan self costs lt crane flipped) in
            let vouched = rw one_more at (flipped_vouched plan self costs lt crane flipped serves (arrived_at d starts calls standing r s stand) metred) in
            rw one_more (plan_work laws (instance_then day asked) (position_set stands s r asked standing) planned vouched)

      -- so the net cost of the stop before crane s tells w
      pub net_work : work d n starts (calls ++ (r ∷ [])) (moved stands r s) + base
          ≡ plan_cost (stops starts calls) (leg_cost d starts calls stands) f + net t
      net_work =
          let some = flipped_for costs.chains f t (le_of_lt lt) in
          rw (← flipped_work some.1, ← early_cost) (arrived_cost plan self costs lt crane some.1 serves (arrived_at d starts calls standing r s stand) metred)
