-- `dayfile::Day::read` meets its contract: each refusal is handed up with its index, and what passes all tests is the day.
-- Assumes nothing.
use Prim.Native.Nat.{ℕ, ◌/◌, ◌≤◌}
use mathlib.Core.List.{List}
use mathlib.Core.Path.{◌≡◌, refl, sym, ◌∙◌}
use borrow.Author.Rules.{rules}
use lib.ListN.{length, take}
use lib.Seq.{length-take-le}
use native.Mathlib.Omega.{arith}
use Rattle.base.specs.Numbers.{◌then◌}
use Rattle.base.proofs.Numbers.{exits, asked_again, refused_number}
use Rattle.road.specs.Table.{most_legs, leg_count, legs_of, run_refusal, triangle_refusal}
use Rattle.road.proofs.Order.{legs_counted, leg_count_most}
use Rattle.road.proofs.Table.{run_passes}
use Rattle.dayfile.specs.declared.scan.State.{State}
use Rattle.dayfile.specs.Codec.{records}
use Rattle.dayfile.specs.Legs.{table_of}
use Rattle.dayfile.specs.Scan.{counted, start, scan}
use Rattle.dayfile.proofs.Answers.{length_refused, record_refused, way_refused, scanned_run, progress_read, file_read}
use Rattle.dayfile.proofs.Grammar.{Run}
use Rattle.dayfile.proofs.legs.Laws.{read_run, length_run}
use Rattle.dayfile.proofs.scan.Laws.{Progress}
use Rattle.dayfile.proofs.Day.read.Goals as goal

-- what a scan that passes tells
module _ (bs : List ℕ) (s : State) (e : counted s ≡ scan 0 start (records bs)) where
  run : Run start (records bs) s
  run = scanned_run _ _ e

  kept : Progress s (length bs / 12)
  kept = progress_read _ _ run

  -- the run of the places read is the front of the table
  legs : (l : ℕ) → l ≡ legs_of s.second → l ≡ leg_count s.second
  legs l told = told ∙ legs_counted _ kept.places

  few : (l : ℕ) → l ≡ legs_of s.second → l ≤ most_legs
  few l told = rw (legs l told) (leg_count_most _ kept.places)

  -- 3 does not apply to the run of the places read, so the test of the ways between them decides
  ways : (l number : ℕ) (array : List ℕ) → l ≡ legs_of s.second → array ≡ table_of s.second (records bs)
      → number ≡ (run_refusal s.second (length (take l array)) then triangle_refusal s.second (take l array))
      → number ≡ triangle_refusal s.second (read_run s.second (records bs))
  ways l number array told f asked =
      let k = kept in
      asked_again (run_refusal s.second (length (read_run s.second (records bs)))) _ number
      (run_passes s.second _ (omega arith) k.places (length_run s.second (records bs))) (rw (legs l told, f) at asked)

pub returns-in_err-test_length : goal.returns-in_err-test_length
returns-in_err-test_length c = rw (exits _ _ c.from_residual.ensures.1) (length_refused _ _ c.in_err-test_length.ensures (refused_number _))

pub returns-in_err-state : goal.returns-in_err-state
returns-in_err-state c = rw (exits _ _ c.from_residual-in_err-state.ensures.1) (record_refused _ (sym c.in_ok-test_length.ensures) _ _ c.in_err-state.ensures)

pub table-table-requires : goal.table-table-requires
table-table-requires c = let k = kept _ _ c.in_ok-state.ensures in
    (k.places, omega arith)

pub slice_bounds-table-end : goal.slice_bounds-table-end
slice_bounds-table-end c = let h = few _ _ c.in_ok-state.ensures _ c.legs-legs.ensures in search rules

pub slice_bounds-test_triangles-end : goal.slice_bounds-test_triangles-end
slice_bounds-test_triangles-end c = let h = few _ _ c.in_ok-state.ensures _ c.legs-legs.ensures in sym (length-take-le _ _ (search rules))

pub returns-in_err-test_triangles : goal.returns-in_err-test_triangles
returns-in_err-test_triangles c = rw (exits _ _ c.from_residual-in_err-test_triangles.ensures.1)
    (way_refused _ (sym c.in_ok-test_length.ensures) _ c.in_ok-state.ensures _
    (ways _ _ c.in_ok-state.ensures _ _ _ c.legs-legs.ensures c.table-table.ensures c.in_err-test_triangles.ensures) (refused_number _))

pub day-requires : goal.day-requires
day-requires c = let k = kept _ _ c.in_ok-state.ensures in
    record { places = k.places; cranes = k.cranes; calls = k.calls; long = omega arith }

pub returns : goal.returns
returns c = rw (c.day.ensures, c.table-table.ensures)
    (sym (file_read _ _ _ (record {
      fits = sym c.in_ok-test_length.ensures;
      same = refl;
      run = run _ _ c.in_ok-state.ensures;
      triangles = sym (ways _ _ c.in_ok-state.ensures _ _ _ c.legs-legs.ensures c.table-table.ensures c.in_ok-test_triangles.ensures);
    })))
