-- `sheet::rows::put` meets its contract: the rows are written one behind another.
-- Assumes nothing.
use mathlib.Core.List.{flat_map}
use lib.ListN.{length}
use Rattle.base.specs.Lists.{up_to}
use Rattle.base.proofs.Lists.{Spliced}
use Rattle.sheet.specs.Row.{row_bytes}
use Rattle.sheet.specs.Sheet.{row_at}
use Rattle.sheet.proofs.rows.put.Given as goal

abbrev pub invariant-loop-i : goal.invariant-loop-i
invariant-loop-i l = Spliced (λ k. flat_map row_bytes (up_to k (row_at l.requests l.served.cranes l.served.metres l.served.leasts))) 0 l.initial.out (length l.requests) l.out l.i
