-- The laws of histories: one more drive adds its metres to the day's drive and to its crane's, which it takes to its place. Assumes nothing.
use Prim.Native.Nat.{ℕ, ◌+◌}
use mathlib.Core.Bool.{Bool, true, false, cond}
use mathlib.Core.List.{List, [], ◌∷◌, ◌++◌}
use mathlib.Core.Path.{◌≡◌, refl}
use lib.Dec.{eqb}
use native.Mathlib.Omega.{arith}
use Rattle.workfunction.specs.Choice.{moved}
use Rattle.workfunction.specs.Lists.{filter}
use Rattle.history.specs.History.{Drive, sum_of, drives_of, driven_by, stands_by}

module _ (x : Drive) where
  pub sum_of_then : (h : List Drive) → sum_of (h ++ (x ∷ [])) ≡ sum_of h + x.metres
  unfolding sum_of
  sum_of_then [] = omega arith
  sum_of_then (y ∷ h) = let more = sum_of_then h in omega (arith, more)

  -- of the crane's drives, where the first of the history is one of them or not
  pub driven_by_then : (j : ℕ) (h : List Drive) → driven_by j (h ++ (x ∷ [])) ≡ driven_by j h + cond (eqb x.crane j) x.metres 0
  unfolding filter sum_of
  driven_by_then j [] = last (eqb x.crane j)
    where
      last : (b : Bool) → sum_of (cond b (x ∷ []) []) ≡ 0 + cond b x.metres 0
      last true = omega arith
      last false = refl
  driven_by_then j (y ∷ h) = first (eqb y.crane j) (drives_of j (h ++ (x ∷ []))) (drives_of j h) (driven_by_then j h)
    where
      first : (b : Bool) (g k : List Drive) → sum_of g ≡ sum_of k + cond (eqb x.crane j) x.metres 0
          → sum_of (cond b (y ∷ g) g) ≡ sum_of (cond b (y ∷ k) k) + cond (eqb x.crane j) x.metres 0
      first true g k more = omega (arith, more)
      first false g k more = more

  pub stands_by_then : (stands : List ℕ) (h : List Drive) → stands_by stands (h ++ (x ∷ [])) ≡ moved (stands_by stands h) x.place x.crane
  unfolding stands_by
  stands_by_then stands [] = refl
  stands_by_then stands (y ∷ h) = stands_by_then (moved stands y.place y.crane) h
