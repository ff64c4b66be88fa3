-- `dayfile::scan::scan` meets its contract: the scan from the record at hand on gives what the scan of the whole file gives.
-- Assumes nothing.
use Prim.Native.Nat.{ℕ, ◌/◌, ◌≤◌}
use mathlib.Core.List.{List}
use mathlib.Core.Path.{◌≡◌}
use lib.ListN.{length, drop}
use Rattle.dayfile.specs.declared.scan.State.{State}
use Rattle.dayfile.specs.Codec.{records}
use Rattle.dayfile.specs.Scan.{start, scan}
use Rattle.dayfile.proofs.scan.Laws.{Progress}
use Rattle.dayfile.proofs.scan.scan.Given as goal

-- the loop's invariant: what has been read, and the index of the next record
pub record Scanned (bs : List ℕ) (s : State) (i : ℕ) : Type 0 where
  pub most : i ≤ length bs / 12
  pub kept : Progress s i
  pub same : scan i s (drop i (records bs)) ≡ scan 0 start (records bs)

abbrev pub invariant-loop-index : goal.invariant-loop-index
invariant-loop-index l = Scanned l.bytes l.state l.index
