-- `dayfile::scan::day` meets its contract: the cranes' records come behind the legs, the calls' behind the cranes'.
-- Assumes nothing.
use Prim.Native.Nat.{ℕ, ◌+◌}
use mathlib.Core.List.{List}
use mathlib.Core.Path.{◌≡◌, ap, ◌∙◌}
use Rattle.base.specs.Lists.{padded}
use Rattle.base.proofs.Lists.{padded_by}
use Rattle.road.specs.Table.{leg_count}
use Rattle.road.proofs.Order.{legs_counted}
use Rattle.dayfile.specs.declared.Day.{Day}
use Rattle.dayfile.specs.declared.codec.Record.{Record}
use Rattle.dayfile.specs.declared.scan.State.{State}
use Rattle.dayfile.specs.Codec.{records}
use Rattle.dayfile.specs.File.{stop_from, day_of}
use Rattle.dayfile.specs.Day.{most_cranes, most_calls}
use Rattle.dayfile.proofs.scan.day.Goals as goal
use Rattle.dayfile.proofs.scan.day.Goals.{After-legs-legs}

made : (rs : List Record) (s : State) (starts requests : List ℕ)
    → starts ≡ padded most_cranes s.cranes (stop_from rs (leg_count s.second)) 0
    → requests ≡ padded most_calls s.calls (stop_from rs (leg_count s.second + s.cranes)) 0
    → ◌≡◌ {A = Day} (record { places = s.second; cranes = s.cranes; calls = s.calls; starts = starts; requests = requests }) (day_of rs s)
unfolding day_of
made rs s starts requests e f =
    λ i. record { places = s.second; cranes = s.cranes; calls = s.calls; starts = e i; requests = f i }

-- the records before the cranes
counted : (c : After-legs-legs) → c.legs-legs.result ≡ leg_count c.args.s.second
counted c = c.legs-legs.ensures ∙ legs_counted _ c.requires.places

pub returns : goal.returns
returns c = let rs = records c.args.bytes.now in
    made rs c.args.s _ _
    (padded_by most_cranes c.args.s.cranes (stop_from rs c.legs-legs.result) 0 _ c.requires.cranes c.read.ensures
    ∙ ap (λ (m : ℕ). padded most_cranes c.args.s.cranes (stop_from rs m) 0) (counted (goal.at.returns c).After-legs-legs))
    (padded_by most_calls c.args.s.calls (stop_from rs (c.legs-legs.result + c.args.s.cranes)) 0 _ c.requires.calls c.read-2.ensures
    ∙ ap (λ (m : ℕ). padded most_calls c.args.s.calls (stop_from rs (m + c.args.s.cranes)) 0) (counted (goal.at.returns c).After-legs-legs))
