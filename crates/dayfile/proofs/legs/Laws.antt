-- The table that the records of the legs make. Assumes nothing.
use Prim.Native.Nat.{ℕ, ◌<◌}
use mathlib.Core.List.{List}
use mathlib.Core.Path.{◌≡◌, ap, ◌∙◌}
use lib.ListN.{length, get_or}
use native.Mathlib.Omega.{arith}
use Rattle.base.specs.Lists.{up_to}
use Rattle.base.proofs.Lists.{length-up_to, get_or-up_to, take-padded}
use Rattle.road.specs.Table.{Table, most_legs, leg_count, leg_index, run_of, metres_of}
use Rattle.road.proofs.Order.{legs_before}
use Rattle.road.proofs.Table.{metres_up}
use Rattle.dayfile.specs.declared.codec.Record.{Record}
use Rattle.dayfile.specs.Legs.{metres_at, table_of}

-- the run of the table that records make
abbrev pub read_run : ℕ → List Record → Table
read_run n rs = run_of n (table_of n rs)

module _ (n : ℕ) (rs : List Record) where
  pub run_read : read_run n rs ≡ up_to (leg_count n) (metres_at rs)
  unfolding table_of
  run_read = take-padded most_legs (leg_count n) (metres_at rs) 0

  pub length_run : length (read_run n rs) ≡ leg_count n
  length_run = ap length run_read ∙ length-up_to (leg_count n) (metres_at rs)

  pub run_at : (i : ℕ) → i < leg_count n → get_or (read_run n rs) i 0 ≡ metres_at rs i
  run_at i lt = ap (λ (t : Table). get_or t i 0) run_read ∙ get_or-up_to (leg_count n) (metres_at rs) i 0 lt

  pub metres_read : (u v : ℕ) → u < v → v < n → metres_of (read_run n rs) u v ≡ metres_at rs (leg_index u v)
  metres_read u v p q = metres_up (read_run n rs) u v p ∙ run_at (leg_index u v) (omega (arith, legs_before v n q))
