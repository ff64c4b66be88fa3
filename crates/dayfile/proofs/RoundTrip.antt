-- The two round trips of document 01, of what reading and writing give: a file that is read and written is the same file, and a day
-- that is written and read is the same day, with the same table. Assumes nothing.
use Prim.Native.Nat.{ℕ, ◌+◌, ◌*◌, ◌%◌, ◌<◌, ◌≤◌}
use mathlib.Core.Bool.{true}
use mathlib.Core.List.{List}
use mathlib.Core.Path.{◌≡◌, refl, sym, ap, ◌∙◌}
use borrow.Author.Tests.{eqb-true, le-leb}
use lib.Dec.{eqb}
use lib.ListN.{length, get_or}
use lib.Seq.{take_all}
use native.Mathlib.Nat.{mul-mod_right, le_of_eq}
use native.Mathlib.Omega.{arith}
use Rattle.base.specs.Lists.{up_to, splice}
use Rattle.base.proofs.Lists.{up_to-same, take-up_to, take-padded, length-padded}
use Rattle.base.proofs.Numbers.{first_of}
use Rattle.base.proofs.Tests.{below_all}
use Rattle.road.specs.Table.{Table, leg_count, leg_index, metres_of, metres_rule, legs_rule}
use Rattle.road.proofs.Order.{legs_before, each_leg, leg_count_most}
use Rattle.road.proofs.Table.{metres_up}
use Rattle.road.proofs.Surveyed.{triangles_kept}
use Rattle.dayfile.specs.declared.Day.{Day}
use Rattle.dayfile.specs.declared.codec.Record.{Record}
use Rattle.dayfile.specs.declared.scan.State.{State}
use Rattle.dayfile.specs.Codec.{records, encode_all}
use Rattle.dayfile.specs.Day.{most_cranes, most_calls, day_starts, day_requests, DayArrays, SameDay, day_refusal, day_records}
use Rattle.dayfile.specs.File.{stop_from, day_of, read_file, read_table, bytes_written, output_of, day_bytes, write_file}
use Rattle.dayfile.specs.Legs.{leg, metres_at, table_of}
use Rattle.dayfile.specs.Scan.{start, length_refusal}
use Rattle.dayfile.proofs.Answers.{File, file_read, accepted_file}
use Rattle.dayfile.proofs.Digits.{records_back, bytes_back}
use Rattle.dayfile.proofs.Indices.{laid, Laid, laid_at, laid_out}
use Rattle.dayfile.proofs.Limits.{Tested, stops_hold, enough_starts, enough_requests, day-tested, day_accepted, day_laid}
use Rattle.dayfile.proofs.Grammar.{Run, Read, run_ended, run_progress, run_fits, all_read}
use Rattle.dayfile.proofs.Runs.{state, run_day}
use Rattle.dayfile.proofs.Outputs.{output_accepted, output_bytes}
use Rattle.dayfile.proofs.codec.Laws.{length-encode_all}
use Rattle.dayfile.proofs.legs.Laws.{read_run, run_read, length_run, run_at, metres_read}
use Rattle.dayfile.proofs.scan.Laws.{Progress, progress_start}

-- the day and the table of an accepted file
module _ (bs : List ℕ) (all : List Record) (t : State) (file : File bs all t) where
  abbrev n : ℕ
  n = t.second

  abbrev made : Table
  made = read_run n all

  abbrev d : ℕ → ℕ → ℕ
  d = metres_of made

  abbrev a : ℕ → ℕ
  a = stop_from all (leg_count n)

  abbrev b : ℕ → ℕ
  b = stop_from all (leg_count n + t.cranes)

  starts_read : day_starts (day_of all t) ≡ up_to t.cranes a
  unfolding day_of
  starts_read = take-padded most_cranes t.cranes a 0

  requests_read : day_requests (day_of all t) ≡ up_to t.calls b
  unfolding day_of
  requests_read = take-padded most_calls t.calls b 0

  kept : Progress t (0 + length all)
  kept = run_progress file.run 0 progress_start

  read : Read all t
  read = all_read all file.run

  legs_read : legs_rule made ≡ true
  legs_read =
      rw (length_run n all)
      (below_all _ (leg_count n) (each_leg (λ (i : ℕ). metres_rule (get_or made i 0) ≡ true) n
      (λ u v p q. rw (run_at n all (leg_index u v) (omega (arith, legs_before v n q))) (read.legs v q u p).1)))

  day_read : Tested (day_of all t) made
  unfolding day_of
  day_read =
      let ended = run_ended file.run in
      record {
        counts = record { place = omega (arith, kept.ordered); places = kept.places; legs = length_run n all; crane = ended.1; cranes = kept.cranes; calls = kept.calls };
        surveyed = record { legs = legs_read; triangles = triangles_kept n made file.triangles };
        starts = rw starts_read (stops_hold n t.cranes a (λ j p. (read.cranes j p).1));
        requests = rw requests_read (stops_hold n t.calls b (λ j p. (read.calls j p).1));
      }

  records_read : day_records (day_of all t) d ≡ all
  unfolding day_of
  records_read =
      day_laid (day_of all t) d a b starts_read requests_read
      ∙ sym (laid_out d n a t.cranes b t.calls all (omega (arith, kept.index, run_ended file.run))
      (record {
        legs = λ u v p q. (read.legs v q u p).0 ∙ ap (leg u v) (sym (metres_read n all u v p q));
        cranes = λ j p. (read.cranes j p).0;
        calls = λ j p. (read.calls j p).0;
      }))

-- what is read passes the tests in memory
pub file_accepted : (bs : List ℕ) → (read_file bs).number ≡ 0 → day_refusal (read_file bs).day (read_table bs) ≡ 0
unfolding day_of
file_accepted bs h =
    let t = accepted_file bs h in
    rw (file_read bs (records bs) t.0 t.1) (day_accepted _ _ (day_read bs (records bs) t.0 t.1))

-- the day that is read has the arrays of its type
pub read_arrays : (bs : List ℕ) → (read_file bs).number ≡ 0 → DayArrays (read_file bs).day
unfolding day_of
read_arrays bs h =
    let t = accepted_file bs h in
    let counts = (day_read bs (records bs) t.0 t.1).counts in
    rw (file_read bs (records bs) t.0 t.1)
    (record { starts = length-padded most_cranes _ _ 0 counts.cranes; requests = length-padded most_calls _ _ 0 counts.calls })

-- an accepted file has the records of the day and the table that are read
pub file_records : (bs : List ℕ) → (read_file bs).number ≡ 0 → records bs ≡ day_records (read_file bs).day (metres_of (read_table bs))
unfolding day_of
file_records bs h =
    let t = accepted_file bs h in
    rw (file_read bs (records bs) t.0 t.1) (sym (records_read bs (records bs) t.0 t.1))

-- file → day → file: in a buffer that is long enough the same bytes are written
pub file_round_trip : (bs out : List ℕ) → ((i : ℕ) → get_or bs i 0 < 256) → (read_file bs).number ≡ 0 → length bs ≤ length out
    → write_file (read_file bs).day (read_table bs) out ≡ record { number = 0; length = length bs; buffer = splice 0 bs out }
unfolding output_of length_refusal day_of
file_round_trip bs out bytes h le =
    let all : List Record = records bs in
    let t = accepted_file bs h in
    let file = t.1 in
    let whole : length bs % 12 ≡ 0 = eqb-true (length bs % 12) 0 (first_of (eqb (length bs % 12) 0) 0 _ file.fits).0 in
    let back : day_bytes (day_of all t.0) (d bs all t.0 file) ≡ bs = ap encode_all (records_read bs all t.0 file) ∙ bytes_back bs bytes whole in
    rw (file_accepted bs h, file_read bs all t.0 file, back, le-leb (length bs) (length out) le)

-- what is read of a day that was written
pub record Back (day : Day) (t : Table) (bs : List ℕ) : Type 0 where
  pub number : (read_file bs).number ≡ 0
  pub same : SameDay (read_file bs).day day
  pub table : read_table bs ≡ t

length_accepted : (n : ℕ) → n ≤ 2288 → length_refusal (12 * n) ≡ 0
unfolding length_refusal
length_accepted n h = rw (mul-mod_right 12 n, le-leb (12 * n) 27456 (omega arith))

-- records at their indices, with the metres of a run, make that run
run_back : (all : List Record) (t : Table) (n : ℕ) (a : ℕ → ℕ) (k : ℕ) (b : ℕ → ℕ) (m : ℕ) → Laid all (metres_of t) n a k b m → length t ≡ leg_count n
    → read_run n all ≡ t
run_back all t n a k b m h long =
    run_read n all
    ∙ up_to-same (leg_count n) (metres_at all) (λ i. get_or t i 0)
    (each_leg (λ (i : ℕ). metres_at all i ≡ get_or t i 0) n (λ u v p q. ap (λ (r : Record). r.metres) (h.legs u v p q) ∙ metres_up t u v p))
    ∙ sym (take-up_to (leg_count n) t 0 (le_of_eq (sym long)))
    ∙ take_all (leg_count n) t (le_of_eq long)

module _ (day : Day) (t : Table) (tests : Tested day t) (arrays : DayArrays day) where
  abbrev given : ℕ → ℕ → ℕ
  given = metres_of t

  abbrev from : ℕ → ℕ
  from j = get_or day.starts j 0

  abbrev to : ℕ → ℕ
  to j = get_or day.requests j 0

  starts-written : day_starts day ≡ up_to day.cranes from
  starts-written = take-up_to day.cranes day.starts 0 (enough_starts day arrays tests.counts.cranes)

  requests_written : day_requests day ≡ up_to day.calls to
  requests_written = take-up_to day.calls day.requests 0 (enough_requests day arrays tests.counts.calls)

  abbrev rs : List Record
  rs = laid given day.places from day.cranes to day.calls

  abbrev end : State
  end = state 0 day.places day.cranes day.calls

  at : Laid rs given day.places from day.cranes to day.calls
  at = laid_at given day.places from day.cranes to day.calls

  table : read_run day.places rs ≡ t
  table = run_back rs t day.places from day.cranes to day.calls at tests.counts.legs

  written : File (encode_all rs) rs end
  written =
      let run : Run start rs end = run_day day t from to starts-written requests_written tests in
      let count : length rs ≤ 2288 = omega (arith, (run_progress run 0 progress_start).index, leg_count_most day.places tests.counts.places) in
      record {
        fits = rw (length-encode_all rs) (length_accepted (length rs) count);
        same = records_back rs (run_fits run 0 progress_start);
        run = run;
        triangles = rw (table, tests.surveyed.triangles);
      }

  same-day : SameDay (day_of rs end) day
  unfolding day_of
  same-day = record {
    places = refl;
    cranes = refl;
    calls = refl;
    starts = take-padded most_cranes day.cranes _ 0 ∙ up_to-same day.cranes _ from (λ j p. ap (λ (r : Record). r.first) (at.cranes j p)) ∙ sym starts-written;
    requests = take-padded most_calls day.calls _ 0 ∙ up_to-same day.calls _ to (λ j p. ap (λ (r : Record). r.first) (at.calls j p)) ∙ sym requests_written;
  }

  back : Back day t (day_bytes day given)
  unfolding day_of
  back =
      let bs : List ℕ = encode_all rs in
      let e : read_file bs ≡ record { number = 0; index = 0; day = day_of rs end; table = table_of day.places rs } = file_read bs rs end written in
      rw (day_laid day given from to starts-written requests_written)
      (record { number = rw e; same = rw e same-day; table = rw e table })

-- day → file → day: where a day is written, what is read of the bytes written is the same day, with the same table
pub day_round_trip : (day : Day) (t : Table) (out : List ℕ) → DayArrays day → (write_file day t out).number ≡ 0
    → Back day t (bytes_written (write_file day t out))
day_round_trip day t out arrays h =
    rw (output_bytes _ _ out h) (back day t (day-tested day t (output_accepted _ _ out h).0) arrays)
