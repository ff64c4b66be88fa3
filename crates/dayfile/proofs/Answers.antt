-- What reading a file answers, from what each of its tests found.
-- Assumes nothing.
use Prim.Native.Nat.{ℕ, ◌/◌}
use mathlib.Core.List.{List}
use mathlib.Core.Path.{◌≡◌, refl, sym, ap, subst, ◌∙◌}
use lib.ListN.{length}
use native.Mathlib.Nat.{zero-add}
use Rattle.road.specs.Table.{triangle_refusal}
use Rattle.dayfile.specs.declared.codec.Record.{Record}
use Rattle.dayfile.specs.declared.scan.State.{State}
use Rattle.dayfile.specs.Codec.{records}
use Rattle.dayfile.specs.File.{day_of, ways, tested, refusal, answer_of, read_file}
use Rattle.dayfile.specs.Legs.{table_of}
use Rattle.dayfile.specs.Scan.{Scan, refused, counted, start, length_refusal, scan}
use Rattle.dayfile.proofs.Grammar.{Run, not_refused, run_of, run_counted, run_progress}
use Rattle.dayfile.proofs.legs.Laws.{read_run}
use Rattle.dayfile.proofs.codec.Laws.{length-records}
use Rattle.dayfile.proofs.scan.Laws.{Progress, progress_start, refuses}

-- a scan that counts is a run
pub scanned_run : (rs : List Record) (s : State) → counted s ≡ scan 0 start rs → Run start rs s
scanned_run rs s e =
    let run = run_of rs rs 0 start (ap (λ (x : Scan). (answer_of rs x).number) (sym e)) in
    let same : run.0 ≡ s = cc (run_counted run.1 0) in
    subst (Run start rs) same run.1

pub progress_read : (bs : List ℕ) (s : State) → Run start (records bs) s → Progress s (length bs / 12)
progress_read bs s run = subst (Progress s) (zero-add _ ∙ length-records bs) (run_progress run 0 progress_start)

-- an accepted file: its records, and what a scan of them counts
pub record File (bs : List ℕ) (all : List Record) (t : State) : Type 0 where
  pub fits : length_refusal (length bs) ≡ 0
  pub same : records bs ≡ all
  pub run : Run start all t
  pub triangles : triangle_refusal t.second (read_run t.second all) ≡ 0

pub file_read : (bs : List ℕ) (all : List Record) (t : State) → File bs all t → read_file bs ≡ record { number = 0; index = 0; day = day_of all t; table = table_of t.second all }
unfolding read_file tested
file_read bs all t h = rw (h.same, h.fits, run_counted h.run 0, h.triangles)

ways-tested : (all : List Record) (x : Scan) → (answer_of all (ways all x)).number ≡ 0 → (answer_of all x).number ≡ 0
ways-tested all (counted s) h = refl
ways-tested all (refused n i) h = h

pub accepted_file : (bs : List ℕ) → (read_file bs).number ≡ 0 → (t : State) × File bs (records bs) t
unfolding read_file tested
accepted_file bs h =
    let all : List Record = records bs in
    let both = not_refused all 0 (length_refusal (length bs)) (ways all (scan 0 start all)) h in
    let run = run_of all all 0 start (ways-tested all (scan 0 start all) both.1) in (
      run.0,
      record {
        fits = both.0;
        same = refl;
        run = run.1;
        triangles = (not_refused all 0 _ (counted run.0) (rw (run_counted run.1 0) at both.1)).0;
      },
    )

module _ (bs : List ℕ) where
  answered : (x : Scan) → tested bs ≡ x → answer_of (records bs) x ≡ read_file bs
  unfolding read_file
  answered x e = ap (answer_of (records bs)) (sym e)

  -- 1
  pub length_refused : (n : ℕ) → n ≡ length_refusal (length bs) → (n ≡ 0 → ⊥) → refusal n 0 ≡ read_file bs
  unfolding tested
  length_refused n e h = answered (refused n 0) (rw (← e) (refuses 0 n _ h))

  module _ (long : length_refusal (length bs) ≡ 0) where
    -- 2 to 7, with the index of the record or of the end
    pub record_refused : (i n : ℕ) → refused n i ≡ scan 0 start (records bs) → refusal n i ≡ read_file bs
    unfolding tested
    record_refused i n e = answered (refused n i) (rw (long, ← e))

    module _ (s : State) (e : counted s ≡ scan 0 start (records bs)) (n : ℕ) (f : n ≡ triangle_refusal s.second (read_run s.second (records bs))) where
      -- 8
      pub way_refused : (n ≡ 0 → ⊥) → refusal n 0 ≡ read_file bs
      unfolding tested
      way_refused h = answered (refused n 0) (rw (long, ← e, ← f) (refuses 0 n _ h))
