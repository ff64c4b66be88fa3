-- Lists by their indices, a list written into another, and items of one width one behind another.
use Rattle.std.specs.Prelude.{ℕ, zero, suc, ◌+◌, ◌-◌, ◌*◌, ◌/◌, List, [], ◌∷◌, ◌++◌, length, take, drop, replicate}

-- f 0, f 1, .. up to f (n - 1)
unfoldable pub up_to : {A : Type 0} → ℕ → (ℕ → A) → List A
up_to zero f = []
up_to (suc n) f = f 0 ∷ up_to n (λ i. f (suc i))

-- an array of m entries: n of them by f, and z past those
abbrev pub padded : {A : Type 0} → ℕ → ℕ → (ℕ → A) → A → List A
padded m n f z = up_to n f ++ replicate (m - n) z

-- old with new written into it from index at
unfoldable pub splice : ℕ → List ℕ → List ℕ → List ℕ
splice at new old = take at old ++ (new ++ drop (at + length new) old)

-- the items of w bytes each that stand one behind another, each read from its first byte on by f
abbrev pub blocks : {A : Type 0} → ℕ → (List ℕ → A) → List ℕ → List A
blocks w f bs = up_to (length bs / w) (λ i. f (drop (w * i) bs))
