-- A table that passed the tests 4 and 8: a metric with no leg above the limit.
-- Assumes nothing.
use Prim.Native.Nat.{ℕ, ◌<◌, ◌≤◌}
use mathlib.Core.Bool.{true}
use mathlib.Core.Path.{◌≡◌, refl}
use lib.ListN.{length}
use Rattle.base.specs.Metric.{Metric}
use Rattle.base.proofs.Numbers.{unless-zero, then_zero, first_of}
use Rattle.road.specs.Table.{Table, most_metres, metres_of, legs_rule, triangle_rule, run_refusal, triangle_refusal, table_refusal}
use Rattle.road.proofs.Table.{metres_self, metres_both, legs_short}
use Rattle.road.proofs.triangles.Laws.{way_at}

-- what the tests 4 and 8 say, whatever the layer above tests between them
pub record Surveyed (n : ℕ) (t : Table) : Type 0 where
  pub legs : legs_rule t ≡ true
  pub triangles : triangle_rule n (metres_of t) ≡ true

module _ (n : ℕ) (t : Table) where
  pub triangles_kept : triangle_refusal n t ≡ 0 → triangle_rule n (metres_of t) ≡ true
  triangles_kept h = unless-zero (triangle_rule n (metres_of t)) 7 h

  -- a table that is accepted alone
  pub table_surveyed : table_refusal n t ≡ 0 → Surveyed n t
  table_surveyed h =
      let legs = first_of (legs_rule t) 3 _ (then_zero (run_refusal n (length t)) _ h).1 in
      record { legs = legs.0; triangles = triangles_kept legs.1 }

module _ {n : ℕ} {t : Table} (s : Surveyed n t) where
  pub surveyed_metric : Metric n (metres_of t)
  surveyed_metric =
      record { self = λ u p. metres_self t u u refl; both_ways = λ u v p q. metres_both t u v; triangle = way_at n (metres_of t) s.triangles }

  pub surveyed_short : (u v : ℕ) → u < n → v < n → metres_of t u v ≤ most_metres
  surveyed_short u v p q = legs_short t s.legs u v
