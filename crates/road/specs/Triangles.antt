-- The triangle rule of three places in ascending order, by the legs between them: no public contract cites these.
use Rattle.std.specs.Prelude.{ℕ, ◌+◌, Bool, ◌&&◌, leb}
use Rattle.base.specs.Tests.{all_below}

-- none of three legs is longer than the two others together
unfoldable pub sides_rule : ℕ → ℕ → ℕ → Bool
sides_rule a b c = leb a (b + c) && leb b (a + c) && leb c (a + b)

-- of w and the earlier place v, with each place u before v
abbrev pub pair_rule : (ℕ → ℕ → ℕ) → ℕ → ℕ → Bool
pair_rule d w v = all_below v (λ u. sides_rule (d u v) (d u w) (d v w))

-- of w, with each two places before it
abbrev pub place_rule : (ℕ → ℕ → ℕ) → ℕ → Bool
place_rule d w = all_below w (pair_rule d w)
