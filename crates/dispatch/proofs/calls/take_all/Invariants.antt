-- `dispatch::calls::take_all` meets its contract: after each turn the calls so far are in the plan. Assumes nothing.
use Prim.Native.Nat.{ℕ, ◌<◌}
use mathlib.Core.List.{List, []}
use lib.ListN.{length, get_or, take}
use Rattle.road.specs.Table.{metres_of, entry}
use Rattle.dispatch.specs.Insertion.{Movable}
use Rattle.dispatch.proofs.calls.take_all.Given as goal

abbrev pub invariant-loop-i : goal.invariant-loop-i
invariant-loop-i l = (n : ℕ) (stands : List ℕ) → Movable n (entry (metres_of l.instance.table.now)) l.instance.starts.now [] stands l.initial.matching.plan l.initial.matching.weights l.initial.matching.costs
    → ((j : ℕ) → j < length l.instance.calls.now → get_or l.instance.calls.now j 0 < n)
    → Movable n (entry (metres_of l.instance.table.now)) l.instance.starts.now (take l.i l.instance.calls.now) stands l.matching.plan l.matching.weights l.matching.costs
