-- `dispatch::serve::serve_all` meets its contract: after each turn the calls so far are served, and the rest of the day is ahead.
-- Assumes nothing.
use Prim.Native.Nat.{ℕ, ◌*◌, ◌<◌, ◌≤◌}
use mathlib.Core.Path.{◌≡◌}
use mathlib.Core.List.{[]}
use lib.ListN.{length, get_or}
use Rattle.road.specs.Table.{metres_of, entry}
use Rattle.dispatch.specs.Insertion.{Roads, Kept}
use Rattle.dispatch.proofs.DayServed.{Running}
use Rattle.dispatch.proofs.serve.serve_all.Given as goal

abbrev pub invariant-loop-i : goal.invariant-loop-i
invariant-loop-i l = record {
  low : l.driven ≤ 4294967296 * l.i;
  sized : (length l.matching.plan ≡ length l.initial.matching.plan) × (length l.matching.weights ≡ length l.initial.matching.weights);
  running : (n : ℕ) (d : ℕ → ℕ → ℕ) → Roads n d (entry (metres_of l.instance.table.now)) → Kept n d l.instance.starts.now [] l.initial.stands l.initial.matching.plan l.initial.matching.weights l.initial.matching.costs
      → ((j : ℕ) → j < length l.instance.calls.now → get_or l.instance.calls.now j 0 < n)
      → Running n d l.instance.starts.now l.instance.calls.now l.initial.stands l.initial.cranes l.initial.metres l.initial.leasts
      l.stands l.matching.plan l.matching.weights l.matching.costs l.cranes l.metres l.leasts l.driven l.i;
}
