-- The calendar: a leap year has every day that another year has. Assumes nothing.
use Prim.Native.Nat.{ℕ, zero, suc, ◌≤◌}
use mathlib.Core.Bool.{Bool, true, false}
use mathlib.Core.Path.{◌≡◌}
use native.Mathlib.Nat.{le_refl}
use native.Mathlib.Omega.{arith}
use Rattle.std.proofs.lemmas.Bool.Decides.{nat_tests}
use Rattle.base.specs.Tests.{within}
use Rattle.season.specs.declared.MonthDay.{MonthDay}
use Rattle.season.specs.Calendar.{month_days, real_day}

-- no month has more days than in a leap year
month_longest : (leap : Bool) (m : ℕ) → month_days leap m ≤ month_days true m
unfolding month_days
month_longest true m = le_refl _
month_longest false zero = omega arith
month_longest false (suc zero) = omega arith
month_longest false (suc (suc zero)) = omega arith
month_longest false (suc (suc (suc m))) = le_refl _

-- a day that some year has, a leap year has
pub real_longest : (leap : Bool) (at : MonthDay) → real_day leap at ≡ true → real_day true at ≡ true
unfolding real_day within
real_longest leap at h = grind (arith, nat_tests, month_longest)
