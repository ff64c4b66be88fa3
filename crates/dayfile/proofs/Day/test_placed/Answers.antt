-- `dayfile::Day::test_placed` meets its contract: each refusal is handed up, and where none applies the next test decides.
-- Assumes nothing.
use Prim.Native.Nat.{ℕ}
use mathlib.Core.Path.{◌≡◌, sym}
use borrow.Author.Rules.{rules}
use Rattle.base.specs.Numbers.{◌then◌}
use Rattle.base.proofs.Numbers.{up, asked_again, goes_on, handed_up}
use Rattle.road.specs.Table.{run_refusal}
use Rattle.dayfile.specs.Day.{counts_refusal, DayArrays, placed_refusal}
use Rattle.dayfile.proofs.Limits.{CountsTested, counts_tested, run_tested, enough_starts, enough_requests, length-starts, length_requests}
use Rattle.dayfile.proofs.Day.test_placed.Goals as goal

module _ (n l k m : ℕ) (h : 0 ≡ counts_refusal n l k m) where
  -- what the numbers tested first tell
  counted : CountsTested n l k m
  counted = counts_tested n l k m (sym h)

  -- the run, asked again, leaves the legs to decide
  legs : (s t : ℕ) → s ≡ (run_refusal n l then t) → s ≡ t
  legs s t e = asked_again _ t s (run_tested n l k m counted) e

pub returns-in_err-test_counts : goal.returns-in_err-test_counts
unfolding placed_refusal
returns-in_err-test_counts c = up _ _ _ c.from_residual.ensures.1 (handed_up _ _ _ c.in_err-test_counts.ensures)

pub returns-in_err-test_legs : goal.returns-in_err-test_legs
unfolding placed_refusal
returns-in_err-test_legs c = goes_on _ _ _ c.in_ok-test_counts.ensures
    (up _ _ _ c.from_residual-in_err-test_legs.ensures.1 (handed_up _ _ _ (legs _ _ _ _ c.in_ok-test_counts.ensures _ _ c.in_err-test_legs.ensures)))

pub slice_bounds-starts-end : goal.slice_bounds-starts-end
slice_bounds-starts-end c = let arrays : DayArrays c.args.self = record { starts = search rules; requests = search rules } in
    enough_starts _ arrays (counted _ _ _ _ c.in_ok-test_counts.ensures).cranes

pub slice_bounds-test_stops-end : goal.slice_bounds-test_stops-end
slice_bounds-test_stops-end c = let arrays : DayArrays c.args.self = record { starts = search rules; requests = search rules } in
    sym (length-starts _ arrays (counted _ _ _ _ c.in_ok-test_counts.ensures).cranes)

pub returns-in_err-test_stops : goal.returns-in_err-test_stops
unfolding placed_refusal
returns-in_err-test_stops c = goes_on _ _ _ c.in_ok-test_counts.ensures
    (goes_on _ _ _ (legs _ _ _ _ c.in_ok-test_counts.ensures _ _ c.in_ok-test_legs.ensures)
    (up _ _ _ c.from_residual-in_err-test_stops.ensures.1 (handed_up _ _ _ c.in_err-test_stops.ensures)))

pub slice_bounds-requests-end : goal.slice_bounds-requests-end
slice_bounds-requests-end c = let arrays : DayArrays c.args.self = record { starts = search rules; requests = search rules } in
    enough_requests _ arrays (counted _ _ _ _ c.in_ok-test_counts.ensures).calls

pub slice_bounds-test_stops-end-2 : goal.slice_bounds-test_stops-end-2
slice_bounds-test_stops-end-2 c = let arrays : DayArrays c.args.self = record { starts = search rules; requests = search rules } in
    sym (length_requests _ arrays (counted _ _ _ _ c.in_ok-test_counts.ensures).calls)

pub returns : goal.returns
unfolding placed_refusal
returns c = goes_on _ _ _ c.in_ok-test_counts.ensures
    (goes_on _ _ _ (legs _ _ _ _ c.in_ok-test_counts.ensures _ _ c.in_ok-test_legs.ensures)
    (goes_on _ _ _ c.in_ok-test_stops.ensures c.test_stops-2.ensures))
