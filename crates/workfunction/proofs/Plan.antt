-- What the rules of a plan and of its weights say, and that weights that vouch make a plan the least of all plans. No step
-- uses the triangle rule. Assumes nothing.
use Prim.Native.Nat.{ℕ, ◌+◌, ◌-◌, ◌<◌, ◌≤◌}
use mathlib.Core.Bool.{Bool, true, false, cond, ◌&&◌, ◌||◌, and-eq-true_iff, or-true}
use mathlib.Core.Logic.{◌⊎◌, inl, inr}
use mathlib.Core.Path.{◌≡◌, refl, sym, ◌∙◌}
use borrow.Author.Tests.{ltb-true, lt-ltb, eqb-true, eq-eqb, ne_eqb}
use lib.Dec.{ltb, eqb}
use lib.IntN.{ℤ, pos, ◌-ℤ◌}
use native.Mathlib.Decide.{ℕ_discrete}
use native.Mathlib.Nat.{one-mul}
use native.Mathlib.Omega.{arith}
use Rattle.base.proofs.Signed.{plus, minus, plus_difference, le_parts, parts_le}
use Rattle.base.proofs.Tests.{below_at, below_all}
use Rattle.workfunction.specs.Lists.{sum_below}
use Rattle.workfunction.specs.Plan.{may_follow, follows, followers_rule, once_rule, plan_rule, slack_rule, vouch_at, vouch_rule, plan_cost}
use Rattle.workfunction.proofs.Sums.{sum_same, sum-le, sum_plus, sum-at, sum_swap, sum_one, sum_times, sum-two, sum_holds}

-- b may follow p where it is a stand or later
pub may_follow_lem : (k p b : ℕ) → (b < k) ⊎ (p < b) → may_follow k p b ≡ true
unfolding may_follow
may_follow_lem k p b (inl h) = rw (lt-ltb b k h)
may_follow_lem k p b (inr h) = rw (lt-ltb p b h) (or-true (ltb b k))

follows_may : (k p b : ℕ) → may_follow k p b ≡ true → (b < k) ⊎ (p < b)
unfolding may_follow
follows_may k p b h = go (ltb b k) refl h
  where
    go : (t : Bool) → ltb b k ≡ t → (t || ltb p b) ≡ true → (b < k) ⊎ (p < b)
    go true e h = inl (ltb-true b k e)
    go false e h = inr (ltb-true p b h)

-- whether b follows p
pub follows-at : (f : ℕ → ℕ) (b p : ℕ) → f p ≡ b → follows f b p ≡ 1
unfolding follows
follows-at f b p e = rw (eq-eqb (f p) b e)

pub follows-not : (f : ℕ → ℕ) (b p : ℕ) → (f p ≡ b → ⊥) → follows f b p ≡ 0
unfolding follows
follows-not f b p n = rw (ne_eqb (f p) b n)

pub same-follows : (f g : ℕ → ℕ) (b p : ℕ) → f p ≡ g p → follows f b p ≡ follows g b p
unfolding follows
same-follows f g b p e = rw e

-- a plan, by its facts
pub record Plan (k N : ℕ) (f : ℕ → ℕ) : Type 0 where
  pub below : (p : ℕ) → p < N → f p < N
  pub may : (p : ℕ) → p < N → (f p < k) ⊎ (p < f p)
  pub once : (b : ℕ) → b < N → sum_below N (follows f b) ≡ 1

pub plan_facts : (k N : ℕ) (f : ℕ → ℕ) → plan_rule k N f ≡ true → Plan k N f
unfolding plan_rule followers_rule once_rule
plan_facts k N f h =
    let rules = (and-eq-true_iff (followers_rule k N f) (once_rule N f)).0 h in
    let each : (p : ℕ) → p < N → (ltb (f p) N ≡ true) × (may_follow k p (f p) ≡ true) =
    λ p lt. (and-eq-true_iff (ltb (f p) N) (may_follow k p (f p))).0 (below_at _ N rules.0 p lt)
    in
    record {
      below = λ p lt. ltb-true (f p) N (each p lt).0;
      may = λ p lt. follows_may k p (f p) (each p lt).1;
      once = λ b lt. eqb-true (sum_below N (follows f b)) 1 (below_at _ N rules.1 b lt);
    }

-- and the other way
pub plan_rule_lem : {k N : ℕ} {f : ℕ → ℕ} → Plan k N f → plan_rule k N f ≡ true
unfolding plan_rule followers_rule once_rule
plan_rule_lem {k} {N} {f} plan =
    rw (
      below_all (λ p. ltb (f p) N && may_follow k p (f p)) N (λ p h. rw (lt-ltb (f p) N (plan.below p h)) (may_follow_lem k p (f p) (plan.may p h))),
      below_all (λ b. eqb (sum_below N (follows f b)) 1) N (λ b h. eq-eqb (sum_below N (follows f b)) 1 (plan.once b h)),
    )

-- every follower follows a stop, and no other
pub stop_before : {k N : ℕ} {f : ℕ → ℕ} → Plan k N f → (b : ℕ) → b < N → (p : ℕ) × (p < N) × (f p ≡ b)
unfolding follows
stop_before {N = N} {f} plan b h =
    let once = plan.once b h in
    let found = sum_holds N (λ p. eqb (f p) b) (omega arith) in
    (found.0, found.1, eqb-true (f found.0) b found.2)

pub stop_only : {k N : ℕ} {f : ℕ → ℕ} → Plan k N f → (p q : ℕ) → p < N → q < N → f p ≡ f q → p ≡ q
unfolding follows
stop_only {N = N} {f} plan p q hp hq e = pick (ℕ_discrete p q)
  where
    pick : Dec (p ≡ q) → p ≡ q
    pick (yes same) = same
    pick (no n) =
        let two = sum-two N p q (follows f (f q)) hp hq n in
        let once = plan.once (f q) (plan.below q hq) in
        let one = eq-eqb (f p) (f q) e in
        let other = eq-eqb (f q) (f q) refl in
        absurd (let all : 2 ≤ 1 = rw (one, other, once) at two in omega arith)

-- a sum over the followers of all stops is the sum over all followers
pub followers_sum : {k N : ℕ} {f : ℕ → ℕ} → Plan k N f → (g : ℕ → ℕ) → sum_below N (λ p. g (f p)) ≡ sum_below N g
unfolding follows
followers_sum {N = N} {f} plan g =
    sum_same N _ _ (λ p h. sym (sum_one N (f p) g (plan.below p h)))
    ∙ sum_swap N N (λ p b. cond (eqb (f p) b) (g b) 0)
    ∙ sum_same N _ _ (λ b h. sum_times N (λ p. eqb (f p) b) (g b) ∙ rw (plan.once b h) (one-mul (g b)))

-- weights that vouch, as naturals: only their differences count, so all of them may be raised alike
pub record Vouched (k N : ℕ) (f : ℕ → ℕ) (c : ℕ → ℕ → ℕ) (y : ℕ → ℕ) : Type 0 where
  pub vouch : (p b : ℕ) → p < N → b < N → (b < k) ⊎ (p < b) → y b + c p (f p) ≤ y (f p) + c p b

unfoldable pub raised : ℕ → (ℕ → ℤ) → ℕ → ℕ
raised N y b = plus (y b) + (sum_below N (λ b. minus (y b)) - minus (y b))

pub vouch_facts : {k N : ℕ} {f : ℕ → ℕ} → Plan k N f → (c : ℕ → ℕ → ℕ) (y : ℕ → ℤ) → vouch_rule k N f c y ≡ true
    → Vouched k N f c (raised N y)
unfolding vouch_rule vouch_at slack_rule raised plus minus
vouch_facts {k} {N} {f} plan c y h = record { vouch = each }
  where
    each : (p b : ℕ) → p < N → b < N → (b < k) ⊎ (p < b) → raised N y b + c p (f p) ≤ raised N y (f p) + c p b
    each p b lt less m =
        let passed = below_at _ N (below_at _ N h p lt) b less in
        let order = le_parts (y b -ℤ y (f p)) (pos (c p b) -ℤ pos (c p (f p))) (rw (may_follow_lem k p b m) at passed) in
        let left = plus_difference (y b) (y (f p)) in
        let right = plus_difference (pos (c p b)) (pos (c p (f p))) in
        let one = sum-at N (λ b. minus (y b)) b less in
        let other = sum-at N (λ b. minus (y b)) (f p) (plan.below p lt) in
        omega arith

-- and the other way, for the weights as they are
pub vouch_rule_lem : {k N : ℕ} (f : ℕ → ℕ) (c : ℕ → ℕ → ℕ) (y : ℕ → ℤ)
    → ((p b : ℕ) → p < N → b < N → (b < k) ⊎ (p < b) → plus (y b) + minus (y (f p)) + c p (f p) ≤ plus (y (f p)) + minus (y b) + c p b)
    → vouch_rule k N f c y ≡ true
unfolding vouch_rule vouch_at slack_rule plus minus
vouch_rule_lem {k} {N} f c y vouch = below_all _ N (λ p lt. below_all _ N (λ b less. go p b lt less (may_follow k p b) refl))
  where
    go : (p b : ℕ) → p < N → b < N → (t : Bool) → may_follow k p b ≡ t → cond t (slack_rule f c y p b) true ≡ true
    go p b lt less true e =
        let order = vouch p b lt less (follows_may k p b e) in
        let left = plus_difference (y b) (y (f p)) in
        let right = plus_difference (pos (c p b)) (pos (c p (f p))) in
        parts_le (y b -ℤ y (f p)) (pos (c p b) -ℤ pos (c p (f p))) (omega arith)
    go p b lt less false e = refl

-- weights that vouch make a plan the least of all plans
pub plan_least : {k N : ℕ} {f g : ℕ → ℕ} {c : ℕ → ℕ → ℕ} {y : ℕ → ℕ} → Plan k N f → Vouched k N f c y → Plan k N g
    → plan_cost N c f ≤ plan_cost N c g
unfolding plan_cost
plan_least {N = N} {f} {g} {c} {y} plan vouched other =
    let each = sum-le N (λ p. y (g p) + c p (f p)) (λ p. y (f p) + c p (g p))
    (λ p h. vouched.vouch p (g p) h (other.below p h) (other.may p h))
    in
    let left = sum_plus N (λ p. y (g p)) (λ p. c p (f p)) in
    let right = sum_plus N (λ p. y (f p)) (λ p. c p (g p)) in
    let mine = followers_sum plan y in
    let theirs = followers_sum other y in
    omega arith
