-- `road::triangles::rows_keep` meets its contract: the loop keeps whether the places below u all keep the rule.
-- Assumes nothing.
use Prim.Native.Nat.{ℕ}
use mathlib.Core.Bool.{Bool}
use mathlib.Core.List.{List}
use mathlib.Core.Path.{◌≡◌}
use lib.ListN.{get_or}
use Rattle.base.specs.Tests.{all_below}
use Rattle.road.specs.Triangles.{sides_rule}
use Rattle.road.proofs.triangles.rows_keep.Given as goal

-- what the loop tests of each place
abbrev pub rule : List ℕ → List ℕ → ℕ → ℕ → Bool
rule near far across u = sides_rule (get_or near u 0) (get_or far u 0) across

abbrev pub invariant-loop-u : goal.invariant-loop-u
invariant-loop-u l = all_below l.u (rule l.near l.far l.across) ≡ l.kept
