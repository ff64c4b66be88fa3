-- What it is to be a least, as in mathematics.
use Rattle.std.specs.Prelude.{ℕ, ◌≤◌, ◌≡◌}

-- m is the least of f over all x with P: some such x attains it, and it is above none of them
pub record IsLeast {X : Type 0} (P : X → Type 0) (f : X → ℕ) (m : ℕ) : Type 0 where
  pub attained : (x : X) × P x × (f x ≡ m)
  pub below : (x : X) → P x → m ≤ f x
