-- `dayfile::stops::read` meets its contract: the loop fills the list from the front with the places of the records.
-- Assumes nothing.
use Prim.Native.Nat.{ℕ, ◌+◌, ◌*◌, ◌<◌, ◌≤◌}
use mathlib.Core.List.{List}
use mathlib.Core.Path.{◌≡◌}
use lib.ListN.{length, drop}
use native.Mathlib.Omega.{arith}
use Rattle.base.proofs.Lists.{fill_begun, fill_turned}
use Rattle.dayfile.specs.declared.codec.Record.{Record}
use Rattle.dayfile.specs.Codec.{decode, records}
use Rattle.dayfile.specs.File.{stop_from}
use Rattle.dayfile.proofs.codec.Laws.{record_at}
use Rattle.dayfile.proofs.stops.read.Goals as goal

stop_read : (bs : List ℕ) (from n i : ℕ) (r : Record) → 12 * (from + n) ≤ length bs → i < n
    → r ≡ decode (drop (12 * (from + i)) bs) → r.first ≡ stop_from (records bs) from i
stop_read bs from n i r fits lt e = rw (e, ← record_at bs (from + i) (omega arith))

pub loop-i-init : goal.loop-i-init
loop-i-init c = fill_begun _ _ _

pub loop-i-preserved : goal.loop-i-preserved
loop-i-preserved c = fill_turned _ _ _ _ _ _ (omega arith) c.loop-i.invariant (omega arith) (stop_read _ _ _ _ _ c.requires (omega arith) c.read.ensures)
