-- `dayfile::legs::table` meets its contract: the loop fills the table from the front.
-- Assumes nothing.
use Prim.Native.Nat.{ℕ, ◌*◌, ◌<◌, ◌≤◌}
use mathlib.Core.List.{List}
use mathlib.Core.Path.{◌≡◌, ◌∙◌}
use borrow.Author.Rules.{rules}
use lib.ListN.{length, drop}
use native.Mathlib.Omega.{arith}
use Rattle.base.proofs.Lists.{fill_begun, fill_turned, fill_padded}
use Rattle.road.specs.Table.{most_legs, leg_count}
use Rattle.road.proofs.Order.{legs_counted, leg_count_most}
use Rattle.dayfile.specs.declared.codec.Record.{Record}
use Rattle.dayfile.specs.Codec.{decode, records}
use Rattle.dayfile.specs.Legs.{metres_at, table_of}
use Rattle.dayfile.proofs.codec.Laws.{record_at}
use Rattle.dayfile.proofs.legs.table.Goals as goal
use Rattle.dayfile.proofs.legs.table.Goals.{After-legs-legs}

-- the record of a leg is that of its index
metres_told : (bs : List ℕ) (legs n : ℕ) (r : Record) {i : ℕ} → 12 * leg_count n ≤ length bs → legs ≡ leg_count n → i < legs → r ≡ decode (drop (12 * i) bs)
    → r.metres ≡ metres_at (records bs) i
metres_told bs legs n r {i} fits e lt told = rw (told, ← record_at bs i (omega arith))

-- the legs that are read
counted : (c : After-legs-legs) → c.legs-legs.result ≡ leg_count c.args.places
counted c = c.legs-legs.ensures ∙ legs_counted _ c.requires.0

few : (c : After-legs-legs) → c.legs-legs.result ≤ most_legs
few c = rw (counted c) (leg_count_most _ c.requires.0)

pub loop-i-init : goal.loop-i-init
loop-i-init c = fill_begun _ _ _

pub bounds-table-i : goal.bounds-table-i
bounds-table-i c = let h = few (goal.at.bounds-table-i c).After-legs-legs in search rules

pub loop-i-preserved : goal.loop-i-preserved
loop-i-preserved c = fill_turned _ _ _ _ _ _ (few (goal.at.loop-i-preserved c).After-legs-legs) c.loop-i.invariant c.loop-i-test.true
    (metres_told _ _ _ _ c.requires.1 (counted (goal.at.loop-i-preserved c).After-legs-legs) c.loop-i-test.true c.read.ensures)

pub returns : goal.returns
unfolding table_of
returns c = rw (← counted (goal.at.returns c).After-legs-legs) (fill_padded _ most_legs _ 0 _ _ c.loop-i.invariant c.loop-i-test.false)
