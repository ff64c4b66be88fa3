-- Numbers as digits: "Figures .. are base ten".
use Rattle.std.specs.Prelude.{ℕ, zero, suc, ◌+◌, ◌/◌, ◌%◌, cond, List, [], ◌∷◌, ◌++◌, ltb}

-- a number of at most k digits, the most significant first; no zeros in front, and 0 is one digit
unfoldable pub up_to_digits : ℕ → ℕ → List ℕ
up_to_digits zero n = []
up_to_digits (suc k) n = cond (ltb n 10) ((48 + n) ∷ []) (up_to_digits k (n / 10) ++ ((48 + n % 10) ∷ []))

-- 20 digits hold every number of 64 bits
unfoldable pub decimal : ℕ → List ℕ
decimal n = up_to_digits 20 n
