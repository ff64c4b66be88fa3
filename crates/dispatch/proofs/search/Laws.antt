-- The invariant of the search for net costs: it holds at first, a settled stop's row of work keeps it, and in the end it says
-- what was searched. Assumes nothing.
use Prim.Native.Nat.{ℕ, ◌+◌, ◌-◌, ◌*◌, ◌<◌, ◌≤◌}
use mathlib.Core.Logic.{◌⊎◌, inl, inr}
use mathlib.Core.Path.{◌≡◌, sym, ◌∙◌}
use borrow.Author.Tests.{lt-ltb, le-ltb}
use native.Mathlib.Decide.{ℕ_discrete, dec_lt}
use native.Mathlib.Omega.{arith}
use Rattle.road.specs.Table.{most_metres}
use Rattle.dispatch.specs.Legs.{plan_room}
use Rattle.dispatch.specs.Search.{net_base, reach, Begun, Nearest, Unbettered, Bettered, Relaxed, Ready, Searched}

-- ---- how far a follower reaches

pub reach_stand : (k N b : ℕ) → b < k → reach k N b ≡ N
unfolding reach
reach_stand k N b h = rw (lt-ltb b k h)

pub reach-call : (k N b : ℕ) → k ≤ b → reach k N b ≡ b
unfolding reach
reach-call k N b h = rw (le-ltb b k h)

module _ (k N b p : ℕ) where
  reach_in : p < N → (b < k) ⊎ (p < b) → p < reach k N b
  reach_in lt may = go (dec_lt b k) may
    where
      go : Dec (b < k) → (b < k) ⊎ (p < b) → p < reach k N b
      go (yes h) m = rw (reach_stand k N b h) lt
      go (no h) (inl l) = absurd (h l)
      go (no h) (inr l) = rw (reach-call k N b (omega arith)) l

  in_reach : p < reach k N b → (b < k) ⊎ (p < b)
  in_reach lt = go (dec_lt b k)
    where
      go : Dec (b < k) → (b < k) ⊎ (p < b)
      go (yes h) = inl h
      go (no h) = inr (rw (reach-call k N b (omega arith)) at lt)

pub reach_most : (k N b : ℕ) → b ≤ N → reach k N b ≤ N
reach_most k N b le = go (dec_lt b k)
  where
    go : Dec (b < k) → reach k N b ≤ N
    go (yes h) = rw (reach_stand k N b h) (omega arith)
    go (no h) = rw (reach-call k N b (omega arith)) le

-- entry i takes the value x, the others keep theirs
pub record Stored (i x : ℕ) (old new : ℕ → ℕ) : Type 0 where
  pub here : new i ≡ x
  pub others : (j : ℕ) → (j ≡ i → ⊥) → new j ≡ old j

-- ---- the list of open stops

-- q is an open stop of least key below N, the key of p being total p + head p
pub record Least (N : ℕ) (head total rank : ℕ → ℕ) (q : ℕ) : Type 0 where
  pub below : q < N
  pub unsettled : rank q ≡ plan_room
  pub least : (p : ℕ) → p < N → rank p ≡ plan_room → total q + head q ≤ total p + head p

-- the first `left` stops of the list are those below N that are open, each once
pub record Listed (N left : ℕ) (stop rank : ℕ → ℕ) : Type 0 where
  pub below : (i : ℕ) → i < left → stop i < N
  pub unsettled : (i : ℕ) → i < left → rank (stop i) ≡ plan_room
  pub every : (p : ℕ) → p < N → rank p ≡ plan_room → (i : ℕ) × ((i < left) × (stop i ≡ p))
  pub once : (i j : ℕ) → i < left → j < left → stop i ≡ stop j → i ≡ j

pub listed_begun : {N left : ℕ} {stop rank : ℕ → ℕ} → left ≡ N → ((p : ℕ) → p < N → stop p ≡ p) → ((p : ℕ) → p < N → rank p ≡ plan_room)
    → Listed N left stop rank
listed_begun all self unsettled = record {
  below = λ i lt. rw (self i (omega arith)) (omega arith);
  unsettled = λ i lt. rw (self i (omega arith)) (unsettled i (omega arith));
  every = λ p lt o. (p, (omega arith, self p lt));
  once = λ i j lt less e. sym (self i (omega arith)) ∙ e ∙ self j (omega arith);
}

pub listed_least : {N left i : ℕ} {stop rank head total : ℕ → ℕ} → Listed N left stop rank → Nearest left stop head total i
    → Least N head total rank (stop i)
listed_least {N} {left} {i} {stop} {rank} {head} {total} s n = record {
  below = s.below i n.below;
  unsettled = s.unsettled i n.below;
  least = λ p lt o. go p (s.every p lt o);
}
  where
    go : (p : ℕ) → (j : ℕ) × ((j < left) × (stop j ≡ p)) → total (stop i) + head (stop i) ≤ total p + head p
    go p (j, (lt, e)) = rw e at (n.least j lt)

-- the stop at i is settled, and the last takes its place
module _ {N left left' i r : ℕ} {stop stop' rank rank' : ℕ → ℕ} (s : Listed N left stop rank) (last : left ≡ left' + 1) (lt : i < left)
    (settled : r < plan_room) (moved : Stored i (stop left') stop stop') (ranked : Stored (stop i) r rank rank') where
  -- a stop that is left stood elsewhere than at i
  stood : (j : ℕ) → j < left' → (l : ℕ) × ((l < left) × ((l ≡ i → ⊥) × (stop' j ≡ stop l)))
  stood j less = go (ℕ_discrete j i)
    where
      go : Dec (j ≡ i) → (l : ℕ) × ((l < left) × ((l ≡ i → ⊥) × (stop' j ≡ stop l)))
      go (yes e) = (left', (omega arith, ((λ h. omega arith), rw e moved.here)))
      go (no m) = (j, (omega arith, (m, moved.others j m)))

  still_below : (j : ℕ) → (l : ℕ) × ((l < left) × ((l ≡ i → ⊥) × (stop' j ≡ stop l))) → stop' j < N
  still_below j (l, (less, (ne, e))) = rw e (s.below l less)

  still_open : (j : ℕ) → (l : ℕ) × ((l < left) × ((l ≡ i → ⊥) × (stop' j ≡ stop l))) → rank' (stop' j) ≡ plan_room
  still_open j (l, (less, (ne, e))) = rw e (ranked.others (stop l) (λ h. ne (s.once l i less lt h)) ∙ s.unsettled l less)

  still_every : (p : ℕ) → p < N → rank' p ≡ plan_room → (j : ℕ) × ((j < left') × (stop' j ≡ p))
  still_every p less o = find (s.every p less (sym (ranked.others p other) ∙ o))
    where
      other : p ≡ stop i → ⊥
      other e = let h : rank' p ≡ r = rw e ranked.here in omega arith

      find : (j : ℕ) × ((j < left) × (stop j ≡ p)) → (j : ℕ) × ((j < left') × (stop' j ≡ p))
      find (j, (h, e)) = go (ℕ_discrete j left')
        where
          ne : j ≡ i → ⊥
          ne same = other (sym e ∙ rw same)

          go : Dec (j ≡ left') → (j : ℕ) × ((j < left') × (stop' j ≡ p))
          go (yes at_last) = (i, (let n : i ≡ j → ⊥ = λ g. ne (sym g) in omega arith, moved.here ∙ rw (sym at_last) e))
          go (no m) = (j, (omega arith, moved.others j ne ∙ e))

  still_once : (a b : ℕ) → a < left' → b < left' → stop' a ≡ stop' b → a ≡ b
  still_once a b l m e = go (ℕ_discrete a i) (ℕ_discrete b i)
    where
      go : Dec (a ≡ i) → Dec (b ≡ i) → a ≡ b
      go (yes x) (yes y) = x ∙ sym y
      go (yes x) (no y) =
          let h = s.once left' b (omega arith) (omega arith) (sym moved.here ∙ (rw x at e) ∙ moved.others b y) in
          absurd (omega arith)
      go (no x) (yes y) =
          let h = s.once a left' (omega arith) (omega arith) (sym (moved.others a x) ∙ (rw y at e) ∙ moved.here) in
          absurd (omega arith)
      go (no x) (no y) = s.once a b (omega arith) (omega arith) (sym (moved.others a x) ∙ e ∙ moved.others b y)

  pub listed_turned : Listed N left' stop' rank'
  listed_turned = record {
    below = λ j less. still_below j (stood j less);
    unsettled = λ j less. still_open j (stood j less);
    every = still_every;
    once = still_once;
  }

-- ---- the invariant: i is the rank of the next stop

-- q is fit to be the parent of p
pub record Held (k N : ℕ) (f : ℕ → ℕ) (c : ℕ → ℕ → ℕ) (i : ℕ) (total rank : ℕ → ℕ) (p q : ℕ) : Type 0 where
  pub below : q ≤ N
  pub settled : rank q < i
  pub earlier : rank q < rank p
  pub allowed : (f q < k) ⊎ (p < f q)
  pub attained : total p + c q (f q) ≡ total q + c p (f q)

pub record Settling (k N : ℕ) (f : ℕ → ℕ) (c : ℕ → ℕ → ℕ) (head : ℕ → ℕ) (i : ℕ) (total parent rank : ℕ → ℕ) : Type 0 where
  -- the new call is settled first, with the net cost net_base
  pub source : rank N ≡ 0
  pub new : total N ≡ net_base + c N N
  -- a round takes a leg off a total at the most
  pub low : (p : ℕ) → p ≤ N → net_base ≤ total p + most_metres * i
  pub high : (p : ℕ) → p ≤ N → total p ≤ net_base + most_metres
  pub ranks : (p : ℕ) → p < N → (rank p ≡ plan_room) ⊎ (rank p < i)
  -- no way over a settled stop is better than what p has
  pub least : (p q : ℕ) → p < N → q ≤ N → rank q < i → (f q < k) ⊎ (p < f q) → total p + c q (f q) ≤ total q + c p (f q)
  -- what p has is the way over its parent
  pub held : (p : ℕ) → p < N → Held k N f c i total rank p (parent p)
  -- no settled stop has a greater key than an open one
  pub order : (p v : ℕ) → p < N → v < N → rank p < i → rank v ≡ plan_room → total p + head p ≤ total v + head v
  pub most : i ≤ N + 1

module _ {k N : ℕ} {f : ℕ → ℕ} {c : ℕ → ℕ → ℕ} {head : ℕ → ℕ} (ready : Ready k N f c head) where
  -- ---- at first

  module _ {total parent rank : ℕ → ℕ} (b : Begun N (λ p. c p N) total parent rank) where
    only_new : (q : ℕ) → q ≤ N → rank q < 1 → q ≡ N
    only_new q le lt = go (dec_lt q N)
      where
        go : Dec (q < N) → q ≡ N
        go (yes h) = let e = b.unsettled q h in omega arith
        go (no h) = omega arith

    first_least : (p q : ℕ) → p < N → q ≤ N → rank q < 1 → total p + c q (f q) ≤ total q + c p (f q)
    first_least p q lt le r =
        rw (only_new q le r, ready.new, b.totals p (omega arith), b.totals N (omega arith)) (omega arith)

    first_held : (p : ℕ) → p < N → Held k N f c 1 total rank p N
    first_held p lt = record {
      below = omega arith;
      settled = rw b.source (omega arith);
      earlier = rw (b.source, b.unsettled p lt) (omega arith);
      allowed = rw ready.new (inr lt);
      attained = rw (ready.new, b.totals p (omega arith), b.totals N (omega arith)) (omega arith);
    }

    pub search_begun : Settling k N f c head 1 total parent rank
    search_begun = record {
      source = b.source;
      new = b.totals N (omega arith);
      low = λ p le. let e = b.totals p le in omega arith;
      high = λ p le. let e = b.totals p le in let l = ready.cost p N le (omega arith) in omega arith;
      ranks = λ p lt. inl (b.unsettled p lt);
      least = λ p q lt le r may. first_least p q lt le r;
      held = λ p lt. rw (b.parents p (omega arith)) (first_held p lt);
      order = λ p v lt l r o. absurd (let e = b.unsettled p lt in omega arith);
      most = omega arith;
    }

  -- a leg of the plan is within the limit
  kept_leg : (p : ℕ) → p ≤ N → c p (f p) ≤ most_metres
  kept_leg p le = go (dec_lt p N)
    where
      go : Dec (p < N) → c p (f p) ≤ most_metres
      go (yes h) = let l = ready.below p h in ready.cost p (f p) le (omega arith)
      go (no h) = let e : p ≡ N = omega arith in rw (e, ready.new) (ready.cost N N (omega arith) (omega arith))

  module _ {i : ℕ} {total parent rank : ℕ → ℕ} (s : Settling k N f c head i total parent rank) where
    -- so its net cost can be taken
    pub leg-within : (p : ℕ) → p ≤ N → c p (f p) ≤ total p
    leg-within p le =
        let leg = kept_leg p le in
        let low = s.low p le in
        let most = ready.most in
        let i-most = s.most in
        omega arith

    pub keys_low : (p : ℕ) → p < N → total p + head p < 9223372036854775808
    keys_low p lt = let h = s.high p (omega arith) in let g = ready.high p lt in omega arith

    -- ---- the row of a settled stop

    module _ {q : ℕ} {total' parent' rank' : ℕ → ℕ} (round : i ≤ N) (picked : Least N head total rank q) (ranked : Stored q i rank rank')
        (row : Relaxed (reach k N (f q)) (total q - c q (f q)) q (λ p. c p (f q)) total parent total' parent') where
      -- what became of p
      abbrev Way : ℕ → Type 0
      Way p =
          Unbettered (reach k N (f q)) (total q - c q (f q)) (λ p. c p (f q)) total parent total' parent' p
          ⊎ Bettered (reach k N (f q)) (total q - c q (f q)) q (λ p. c p (f q)) total total' parent' p

      leg_q : c q (f q) ≤ total q
      leg_q = leg-within q (let l = picked.below in omega arith)

      -- a way over q has a key no less than that of q
      bettered_key : (p : ℕ) → Bettered (reach k N (f q)) (total q - c q (f q)) q (λ p. c p (f q)) total total' parent' p
          → p < N × total q + head q ≤ total' p + head p
      bettered_key p b =
          let l = picked.below in
          let to : f q < N = ready.below q l in
          let most = reach_most k N (f q) (omega arith) in
          let under = b.below in
          let lt : p < N = omega arith in
          let v = ready.vouched p q lt l (in_reach k N (f q) p b.below) in
          let e = b.taken in
          let leg = leg_q in
          (lt, omega arith)

      -- the new call and the stops with a key no greater keep their totals
      stays : (p : ℕ) → (p < N → total p + head p ≤ total q + head q) → total' p ≡ total p
      stays p key = go (row.each p)
        where
          go : Way p → total' p ≡ total p
          go (inl h) = h.same
          go (inr b) = let better = bettered_key p b in let low = key better.0 in let less = b.less in let e = b.taken in omega arith

      settled_stays : (p : ℕ) → rank p < i → total' p ≡ total p
      settled_stays p r = stays p (λ lt. s.order p q lt picked.below r picked.unsettled)

      q_stays : total' q ≡ total q
      q_stays = stays q (λ lt. omega arith)

      falls : (p : ℕ) → total' p ≤ total p
      falls p = go (row.each p)
        where
          go : Way p → total' p ≤ total p
          go (inl h) = let e = h.same in omega arith
          go (inr b) = let e = b.taken in let less = b.less in omega arith

      below_open : i < plan_room
      below_open = let m = ready.most in omega arith

      other : (p : ℕ) → rank p < i → p ≡ q → ⊥
      other p r e = let o : rank p ≡ plan_room = rw e picked.unsettled in let m = below_open in omega arith

      old_rank : (p : ℕ) → rank p < i → rank' p ≡ rank p
      old_rank p r = ranked.others p (other p r)

      -- a stop with a rank now is q or had one before
      by_rank : (p : ℕ) → p ≤ N → rank' p < i + 1 → (p ≡ q) ⊎ (rank p < i)
      by_rank p le r = go (ℕ_discrete p q) (dec_lt p N)
        where
          go : Dec (p ≡ q) → Dec (p < N) → (p ≡ q) ⊎ (rank p < i)
          go (yes e) _ = inl e
          go (no m) (no h) =
              let e : p ≡ N = omega arith in
              let some = (s.held q picked.below).settled in
              inr (rw (e, s.source) (omega arith))
          go (no m) (yes h) = settle (s.ranks p h)
            where
              settle : (rank p ≡ plan_room) ⊎ (rank p < i) → (p ≡ q) ⊎ (rank p < i)
              settle (inl o) = absurd (let e = ranked.others p m in let b = below_open in omega arith)
              settle (inr l) = inr l

      -- an open stop has a key no less than that of q
      open_key : (v : ℕ) → v < N → rank v ≡ plan_room → total q + head q ≤ total' v + head v
      open_key v lt o = go (row.each v)
        where
          go : Way v → total q + head q ≤ total' v + head v
          go (inl h) = let e = h.same in let l = picked.least v lt o in omega arith
          go (inr b) = (bettered_key v b).1

      new_least : (p q₁ : ℕ) → p < N → q₁ ≤ N → (f q₁ < k) ⊎ (p < f q₁) → (q₁ ≡ q) ⊎ (rank q₁ < i)
          → total' p + c q₁ (f q₁) ≤ total' q₁ + c p (f q₁)
      new_least p q₁ lt le may (inr r) =
          let e = settled_stays q₁ r in
          let h = falls p in
          let l = s.least p q₁ lt le r may in
          omega arith
      new_least p q₁ lt le may (inl same) = rw same (go (row.each p))
        where
          go : Way p → total' p + c q (f q) ≤ total' q + c p (f q)
          go (inl h) =
              let e = h.same in
              let l = h.least (reach_in k N (f q) p lt (rw same at may)) in
              let g = q_stays in
              let leg = leg_q in
              omega arith
          go (inr b) = let e = b.taken in let g = q_stays in let leg = leg_q in omega arith

      new_low : (p : ℕ) → p ≤ N → net_base ≤ total' p + most_metres * (i + 1)
      new_low p le = go (row.each p)
        where
          go : Way p → net_base ≤ total' p + most_metres * (i + 1)
          go (inl h) = let e = h.same in let l = s.low p le in omega arith
          go (inr b) =
              let e = b.taken in
              let lt = picked.below in
              let l = s.low q (omega arith) in
              let leg = kept_leg q (omega arith) in
              omega arith

      new_rank : (p : ℕ) → p < N → rank p ≡ plan_room → (p ≡ q → ⊥) → rank' q < rank' p
      new_rank p lt o ne = rw (ranked.here, ranked.others p ne, o) below_open

      new_held : (p : ℕ) → p < N → Held k N f c (i + 1) total' rank' p (parent' p)
      new_held p lt = go (row.each p)
        where
          older : Dec (p ≡ q) → rank (parent p) < rank' p
          older (yes e) = rw (e, ranked.here) (s.held q picked.below).settled
          older (no m) = rw (ranked.others p m) (s.held p lt).earlier

          keep : total' p ≡ total p → Held k N f c (i + 1) total' rank' p (parent p)
          keep same = record {
            below = (s.held p lt).below;
            settled = let l = (s.held p lt).settled in rw (old_rank (parent p) l) (omega arith);
            earlier = rw (old_rank (parent p) (s.held p lt).settled) (older (ℕ_discrete p q));
            allowed = (s.held p lt).allowed;
            attained = rw (same, settled_stays (parent p) (s.held p lt).settled) (s.held p lt).attained;
          }

          moved_on : total' p < total p → total' p ≡ total p → ⊥
          moved_on l e = omega arith

          not_settled : total' p < total p → (rank p ≡ plan_room) ⊎ (rank p < i) → rank p ≡ plan_room
          not_settled l (inl o) = o
          not_settled l (inr r) = absurd (moved_on l (settled_stays p r))

          not_q : total' p < total p → p ≡ q → ⊥
          not_q l e = moved_on l (rw e q_stays)

          take : Bettered (reach k N (f q)) (total q - c q (f q)) q (λ p. c p (f q)) total total' parent' p → Held k N f c (i + 1) total' rank' p q
          take b =
              let e = b.taken in
              let less = b.less in
              let l : total' p < total p = omega arith in
              record {
                below = let h = picked.below in omega arith;
                settled = rw ranked.here (omega arith);
                earlier = new_rank p lt (not_settled l (s.ranks p lt)) (not_q l);
                allowed = in_reach k N (f q) p b.below;
                attained = let g = q_stays in let leg = leg_q in omega arith;
              }

          go : Way p → Held k N f c (i + 1) total' rank' p (parent' p)
          go (inl h) = rw h.parented (keep h.same)
          go (inr b) = rw b.parented (take b)

      new_ranks : (p : ℕ) → p < N → (rank' p ≡ plan_room) ⊎ (rank' p < i + 1)
      new_ranks p lt = go (ℕ_discrete p q) (s.ranks p lt)
        where
          go : Dec (p ≡ q) → (rank p ≡ plan_room) ⊎ (rank p < i) → (rank' p ≡ plan_room) ⊎ (rank' p < i + 1)
          go (yes e) _ = inr (rw (e, ranked.here) (omega arith))
          go (no m) (inl o) = inl (ranked.others p m ∙ o)
          go (no m) (inr r) = inr (rw (ranked.others p m) (omega arith))

      new_order : (p v : ℕ) → p < N → v < N → (p ≡ q) ⊎ (rank p < i) → rank' v ≡ plan_room → total' p + head p ≤ total' v + head v
      new_order p v lt l at o = go at
        where
          ne : v ≡ q → ⊥
          ne e = let h : rank' v ≡ i = rw e ranked.here in let m = below_open in omega arith

          was : rank v ≡ plan_room
          was = sym (ranked.others v ne) ∙ o

          go : (p ≡ q) ⊎ (rank p < i) → total' p + head p ≤ total' v + head v
          go (inl e) = rw e (let h = open_key v l was in let g = q_stays in omega arith)
          go (inr r) =
              let h = open_key v l was in
              let g = settled_stays p r in
              let m = s.order p q lt picked.below r picked.unsettled in
              omega arith

      pub search_turned : Settling k N f c head (i + 1) total' parent' rank'
      search_turned = record {
        source = ranked.others N (λ e. let l = picked.below in omega arith) ∙ s.source;
        new = stays N (λ lt. absurd (omega arith)) ∙ s.new;
        low = new_low;
        high = λ p le. let h = s.high p le in let l = falls p in omega arith;
        ranks = new_ranks;
        least = λ p q₁ lt le r may. new_least p q₁ lt le may (by_rank q₁ le r);
        held = new_held;
        order = λ p v lt l r o. new_order p v lt l (by_rank p (omega arith) r) o;
        most = omega arith;
      }

  -- ---- in the end

  module _ {i : ℕ} {total parent rank : ℕ → ℕ} (s : Settling k N f c head i total parent rank) (over : N < i)
      (none : (p : ℕ) → p < N → rank p ≡ plan_room → ⊥) where
    all_settled : (p : ℕ) → p ≤ N → rank p < i
    all_settled p le = go (dec_lt p N)
      where
        pick : p < N → (rank p ≡ plan_room) ⊎ (rank p < i) → rank p < i
        pick lt (inl o) = absurd (none p lt o)
        pick lt (inr r) = r

        go : Dec (p < N) → rank p < i
        go (yes lt) = pick lt (s.ranks p lt)
        go (no h) = let e : p ≡ N = omega arith in rw (e, s.source) (omega arith)

    pub search_ended : Searched k N f c total parent rank
    search_ended = record {
      totals = record { legs = leg-within s; most = s.high };
      nets = record {
        source = rw ready.new (let e = s.new in omega arith);
        least = λ p q lt le may.
            let l = s.least p q lt le (all_settled q le) may in
            let a = leg-within s p (omega arith) in
            let b = leg-within s q le in
            omega arith;
        attained = λ p lt.
            let h = s.held p lt in
            let a = leg-within s p (omega arith) in
            let b = leg-within s (parent p) h.below in
            omega arith;
        allowed = λ p lt. (s.held p lt).allowed;
        chains = record { first = s.source; below = λ p lt. (s.held p lt).below; earlier = λ p lt. (s.held p lt).earlier };
        ranked = λ p le. let r = all_settled p le in let most = s.most in omega arith;
      };
    }
