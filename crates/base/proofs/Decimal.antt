-- The digits of a number: the last behind the others, and how many there are.
-- Assumes nothing.
use Prim.Native.Nat.{ℕ, zero, suc, ◌+◌, ◌/◌, ◌%◌, ◌^◌, ◌<◌, ◌≤◌, zero-le, suc-le-suc}
use mathlib.Core.Bool.{Bool, true, false, cond}
use mathlib.Core.List.{List, [], ◌∷◌, ◌++◌}
use mathlib.Core.Path.{◌≡◌}
use borrow.Author.Tests.{lt-ltb, le-ltb}
use lib.Dec.{ltb}
use lib.ListN.{length, length-append}
use native.Mathlib.Nat.{pow-suc, div-lt_iff_lt-mul, zero-lt-suc}
use native.Mathlib.Omega.{arith}
use Rattle.base.specs.Decimal.{up_to_digits, decimal}

-- one digit, and one more behind others
pub digits_one : (k n : ℕ) → n < 10 → up_to_digits (suc k) n ≡ (48 + n) ∷ []
unfolding up_to_digits
digits_one k n h = rw (lt-ltb n 10 h)

pub digits_more : (k n : ℕ) → 10 ≤ n → up_to_digits (suc k) n ≡ up_to_digits k (n / 10) ++ ((48 + n % 10) ∷ [])
unfolding up_to_digits
digits_more k n h = rw (le-ltb n 10 h)

pub fewer_digits : (k n : ℕ) → n < 10 ^ suc k → n / 10 < 10 ^ k
fewer_digits k n h = (div-lt_iff_lt-mul (zero-lt-suc 9)).1 (rw pow-suc at h)

length-cond : (b : Bool) (x y : List ℕ) (m : ℕ) → length x ≤ m → length y ≤ m → length (cond b x y) ≤ m
length-cond true x y m p q = p
length-cond false x y m p q = q

length-up_to_digits : (k n : ℕ) → length (up_to_digits k n) ≤ k
unfolding up_to_digits
length-up_to_digits zero n = zero-le
length-up_to_digits (suc k) n =
    let last : List ℕ = (48 + n % 10) ∷ [] in
    let most : length (up_to_digits k (n / 10) ++ last) ≤ suc k = rw length-append (omega (arith, length-up_to_digits k (n / 10))) in
    length-cond (ltb n 10) ((48 + n) ∷ []) (up_to_digits k (n / 10) ++ last) (suc k) (suc-le-suc zero-le) most

pub length-decimal : (n : ℕ) → length (decimal n) ≤ 20
unfolding decimal
length-decimal n = length-up_to_digits 20 n
