-- Numbers below a bound that pass a test: how many, and the lowest.
use Rattle.std.specs.Prelude.{ℕ, zero, suc, Bool, cond}
use Rattle.workfunction.specs.Lists.{sum_below}

-- how many numbers below n pass
unfoldable pub count : ℕ → (ℕ → Bool) → ℕ
count n P = sum_below n (λ i. cond (P i) 1 0)

-- the lowest number below n that passes, or n if none does
unfoldable pub first : ℕ → (ℕ → Bool) → ℕ
first zero P = 0
first (suc n) P = cond (P 0) 0 (suc (first n (λ i. P (suc i))))
