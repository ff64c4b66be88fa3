-- The definitions compute: a refusal, and the shortest and the longest number, byte by byte.
-- Assumes nothing.
use Prim.Native.Nat.{ℕ}
use mathlib.Core.List.{List, [], ◌∷◌}
use mathlib.Core.Path.{◌≡◌, refl}
use Rattle.base.specs.Decimal.{up_to_digits, decimal}
use Rattle.report.specs.Text.{refused_line}

-- refused 3 record 12
abbrev refusal : List ℕ
refusal =
    114 ∷ 101 ∷ 102 ∷ 117 ∷ 115 ∷ 101 ∷ 100 ∷ 32 ∷ 51 ∷ 32 ∷ 114 ∷ 101 ∷ 99 ∷ 111 ∷ 114 ∷ 100 ∷ 32 ∷ 49 ∷ 50 ∷ 10 ∷ []

pub refusal-printed : refused_line 3 12 ≡ refusal
unfolding up_to_digits decimal refused_line
refusal-printed = refl

pub shortest : decimal 0 ≡ 48 ∷ []
unfolding up_to_digits decimal
shortest = refl

pub longest : decimal 18446744073709551615 ≡ 49 ∷ 56 ∷ 52 ∷ 52 ∷ 54 ∷ 55 ∷ 52 ∷ 52 ∷ 48 ∷ 55 ∷ 51 ∷ 55 ∷ 48 ∷ 57 ∷ 53 ∷ 53 ∷ 49 ∷ 54 ∷ 49 ∷ 53 ∷ []
unfolding up_to_digits decimal
longest = refl
