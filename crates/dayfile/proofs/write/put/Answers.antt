-- `dayfile::write::put` meets its contract: the legs are written first, the cranes behind them, the calls behind those.
-- Assumes nothing.
use mathlib.Core.Path.{◌≡◌, ◌∙◌}
use borrow.Author.Rules.{rules}
use lib.ListN.{length}
use Rattle.road.specs.Table.{leg_count}
use Rattle.road.proofs.Order.{legs_counted}
use Rattle.dayfile.specs.Day.{day_starts, day_requests, DayArrays}
use Rattle.dayfile.proofs.Limits.{length-starts, length_requests}
use Rattle.dayfile.proofs.Outputs.{all_put}
use Rattle.dayfile.proofs.write.put.Goals as goal
use Rattle.dayfile.proofs.write.put.Goals.{After-legs-legs, After-shared_slice_known-1}

arrays : (c : After-shared_slice_known-1) → DayArrays c.args.day
arrays c = record { starts = search rules; requests = search rules }

cranes : (c : After-shared_slice_known-1) → length (day_starts c.args.day) ≡ c.args.day.cranes
cranes c = length-starts _ (arrays c) c.requires.cranes

calls : (c : After-shared_slice_known-1) → length (day_requests c.args.day) ≡ c.args.day.calls
calls c = length_requests _ (arrays c) c.requires.calls

-- the records before the cranes
counted : (c : After-legs-legs) → c.legs-legs.result ≡ leg_count c.args.day.places
counted c = c.legs-legs.ensures ∙ legs_counted _ c.requires.places

pub returns : goal.returns
returns c = all_put c.args.day c.args.table.now (cranes (goal.at.returns c).After-shared_slice_known-1) (calls (goal.at.returns c).After-shared_slice_known-1) _ _ _ _ c.requires.long c.put.ensures
    (rw (counted (goal.at.returns c).After-legs-legs) at c.put-2.ensures) (rw (counted (goal.at.returns c).After-legs-legs) at c.put-3.ensures)
