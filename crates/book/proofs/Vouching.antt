-- What the range of a weight says, how the machine's bits stand for a weight and for the difference of two weights or legs,
-- and that only the numbers below that of the stops decide. Assumes nothing.
use Prim.Native.Nat.{ℕ, ◌<◌, ◌≤◌, zero-le, suc-le-suc}
use mathlib.Core.Bool.{true, cond, ◌&&◌, and-eq-true_iff}
use mathlib.Core.List.{List}
use mathlib.Core.Path.{◌≡◌, refl}
use borrow.Author.Tests.{leb-true, le-leb}
use lib.Dec.{leb}
use lib.IntN.{ℤ, pos, negsuc, ◌-ℤ◌}
use lib.Signed.{mag, le_z}
use mir.Syntax.{w32, w64}
use mir.Val.{Fits, SFits, to_z, of_z}
use mir.ValLaws.{to_z-of_z}
use native.Mathlib.Omega.{arith}
use Rattle.base.specs.Numbers.{unless}
use Rattle.base.proofs.Signed.{plus, minus, difference_plus, difference_minus, difference_fits, fits_64}
use Rattle.base.proofs.Numbers.{holds}
use Rattle.base.proofs.Tests.{below_same, below_at}
use Rattle.workfunction.specs.Plan.{may_follow, plan_rule, slack_rule, vouch_at, vouch_rule, plan_cost}
use Rattle.workfunction.proofs.Plan.{plan_facts}
use Rattle.workfunction.proofs.Sums.{sum_same}
use Rattle.book.specs.Book.{follower, weight, weight_rule, range_rule, weights_refusal}
use Rattle.book.specs.Weights.{Followed, Weighed}
use lib.ListN.{length}

-- a weight read from the list
pub read_back : (y : ℤ) → mag y < 9223372036854775808 → to_z w64 (of_z w64 y) ≡ y
read_back y h = to_z-of_z w64 y (record { sfits = h })

-- the range, by its bounds
pub record Ranged (y : ℤ) : Type 0 where
  pub high : plus y ≤ 1099511627776
  pub low : minus y ≤ 1099511627776

pub ranged : (y : ℤ) → weight_rule y ≡ true → Ranged y
unfolding weight_rule plus minus
ranged (pos n) h = record { high = leb-true n 1099511627776 h; low = zero-le }
ranged (negsuc n) h = record { high = zero-le; low = suc-le-suc (leb-true n 1099511627775 ((and-eq-true_iff (leb n 1099511627775) true).0 h).0) }

pub in_range : (y : ℤ) → plus y ≤ 1099511627776 → minus y ≤ 1099511627776 → weight_rule y ≡ true
unfolding weight_rule plus minus
in_range (pos n) h l = le-leb n 1099511627776 h
in_range (negsuc n) h l = rw (le-leb n 1099511627775 (omega arith))

-- the difference of what two bit patterns stand for, as the machine makes it and reads it back
abbrev pub difference : ℕ → ℕ → ℤ
difference m n = to_z w64 (of_z w64 (to_z w64 m -ℤ to_z w64 n))

-- the difference of two weights fits, and is read back as it is
module _ (y kept : ℤ) (f : SFits w64 y) (g : SFits w64 kept) (h : weight_rule y ≡ true) (l : weight_rule kept ≡ true) where
  weights_near : SFits w64 (y -ℤ kept)
  weights_near =
      let high = difference_plus y kept in
      let low = difference_minus y kept in
      fits_64 (y -ℤ kept) (omega (arith, ranged y h, ranged kept l)) (omega (arith, ranged y h, ranged kept l))

  pub weights_fit : SFits w64 (to_z w64 (of_z w64 y) -ℤ to_z w64 (of_z w64 kept))
  weights_fit = rw (to_z-of_z w64 y f, to_z-of_z w64 kept g) weights_near

  pub weights_less : difference (of_z w64 y) (of_z w64 kept) ≡ y -ℤ kept
  weights_less = rw (to_z-of_z w64 y f, to_z-of_z w64 kept g) (to_z-of_z w64 (y -ℤ kept) weights_near)

-- the same of two legs
pub legs_less : (leg own : ℕ) → Fits w32 leg → Fits w32 own → difference (of_z w64 (pos leg)) (of_z w64 (pos own)) ≡ pos leg -ℤ pos own
legs_less leg own f g =
    rw (to_z-of_z w64 (pos leg) (record { sfits = omega (arith, f) }), to_z-of_z w64 (pos own) (record { sfits = omega (arith, g) }))
    (to_z-of_z w64 (pos leg -ℤ pos own) (difference_fits leg own (omega (arith, f)) (omega (arith, g))))

-- the machine's differences of two weights and of two legs compare as the numbers do
pub slack_read : (y kept : ℤ) (leg own : ℕ) → SFits w64 y → SFits w64 kept → Fits w32 leg → Fits w32 own → weight_rule y ≡ true → weight_rule kept ≡ true
    → (u v : ℤ) → u ≡ pos leg → v ≡ pos own
    → le_z (difference (of_z w64 y) (of_z w64 kept)) (difference (of_z w64 u) (of_z w64 v)) ≡ le_z (y -ℤ kept) (pos leg -ℤ pos own)
slack_read y kept leg own f g m n h l u v d e = rw (d, e, weights_less y kept f g h l, legs_less leg own m n)

-- the comparison of numbers that are those of a stop p and a follower b
pub vouch_read : (k : ℕ) (f : ℕ → ℕ) (c : ℕ → ℕ → ℕ) (y : ℕ → ℤ) (p b : ℕ) {u v : ℤ} {leg own : ℕ} → u ≡ y b → v ≡ y (f p)
    → leg ≡ c p b → own ≡ c p (f p) → cond (may_follow k p b) (le_z (u -ℤ v) (pos leg -ℤ pos own)) true ≡ vouch_at k f c y p b
unfolding vouch_at slack_rule
vouch_read k f c y p b e g h l = rw (e, g, h, l) refl

-- followers below n, weights and leg costs that agree below n with others are tested as those
module _ (k n : ℕ) (f g : ℕ → ℕ) (c e : ℕ → ℕ → ℕ) (y z : ℕ → ℤ) (below : (p : ℕ) → p < n → f p < n)
    (followers : (p : ℕ) → p < n → f p ≡ g p) (weights : (b : ℕ) → b < n → y b ≡ z b)
    (legs : (p b : ℕ) → p < n → b < n → c p b ≡ e p b) where
  same_ranges : range_rule n y ≡ range_rule n z
  same_ranges = below_same _ _ n (λ b l. rw (weights b l))

  pub same_vouching : vouch_rule k n f c y ≡ vouch_rule k n g e z
  unfolding vouch_rule vouch_at slack_rule
  same_vouching =
      below_same _ _ n (λ p h. below_same (vouch_at k f c y p) (vouch_at k g e z p) n
      (λ b l. rw (legs p b h l, legs p (f p) h (below p h), weights b l, weights (f p) (below p h), followers p h)))

  same_refusals : unless (range_rule n y && vouch_rule k n f c y) 10 ≡ unless (range_rule n z && vouch_rule k n g e z) 10
  same_refusals = rw (same_ranges, same_vouching)

module _ (k n : ℕ) (plan : List ℕ) (weights : List ℤ) (c e : ℕ → ℕ → ℕ) where
  -- a plan and its weights
  pub same_weights : (plan' : List ℕ) (weights' : List ℤ) → plan_rule k n (follower plan) ≡ true
      → ((p : ℕ) → p < n → follower plan p ≡ follower plan' p) → ((b : ℕ) → b < n → weight weights b ≡ weight weights' b)
      → ((p b : ℕ) → p < n → b < n → c p b ≡ e p b) → weights_refusal k n plan weights c ≡ weights_refusal k n plan' weights' e
  same_weights plan' weights' planned =
      same_refusals k n (follower plan) (follower plan') c e (weight weights) (weight weights') (plan_facts k n (follower plan) planned).below

  -- the same ones over other legs
  pub over_legs : plan_rule k n (follower plan) ≡ true → ((p b : ℕ) → p < n → b < n → c p b ≡ e p b)
      → weights_refusal k n plan weights c ≡ weights_refusal k n plan weights e
  over_legs planned = same_weights plan weights planned (λ p h. refl) (λ b l. refl)

  pub vouch_over_legs : plan_rule k n (follower plan) ≡ true → ((p b : ℕ) → p < n → b < n → c p b ≡ e p b)
      → vouch_rule k n (follower plan) c (weight weights) ≡ vouch_rule k n (follower plan) e (weight weights)
  vouch_over_legs planned =
      same_vouching k n (follower plan) (follower plan) c e (weight weights) (weight weights) (plan_facts k n (follower plan) planned).below
      (λ p h. refl) (λ b l. refl)

  -- and what the plan costs
  pub cost_over_legs : plan_rule k n (follower plan) ≡ true → ((p b : ℕ) → p < n → b < n → c p b ≡ e p b)
      → plan_cost n c (follower plan) ≡ plan_cost n e (follower plan)
  unfolding plan_cost
  cost_over_legs planned same =
      sum_same n _ _ (λ p h. same p (follower plan p) h ((plan_facts k n (follower plan) planned).below p h))

-- weights that were tested and accepted are within their range
pub weighed : (plan : List ℕ) (weights : List ℤ) → length weights ≡ length plan → Followed (length plan) plan weights
    → 0 ≡ unless (range_rule (length weights) (weight weights)) 10 → Weighed (length plan) plan weights
weighed plan weights e f h = record { followed = f; ranged = below_at _ _ (holds _ 9 (rw e at h)) }
