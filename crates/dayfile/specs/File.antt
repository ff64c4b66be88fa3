-- What reading and writing a day file give, for all bytes, days and buffers.
use Rattle.std.specs.Prelude.{ℕ, ◌+◌, ◌*◌, ◌≤◌, List, leb, length, get_or, take, replicate, Result, Ok, Err}
use Rattle.base.specs.Lists.{padded, splice}
use Rattle.base.specs.declared.Refusal.{Refusal}
use Rattle.base.specs.Numbers.{refusal_number, unless, ◌then◌, unless_refused}
use Rattle.road.specs.Table.{Table, most_places, most_legs, leg_count, run_of, metres_of, triangle_refusal}
use Rattle.dayfile.specs.declared.Day.{Day}
use Rattle.dayfile.specs.declared.Reading.{Reading}
use Rattle.dayfile.specs.declared.FileRefusal.{FileRefusal}
use Rattle.dayfile.specs.declared.codec.Record.{Record}
use Rattle.dayfile.specs.declared.scan.State.{State}
use Rattle.dayfile.specs.Codec.{records, encode_all}
use Rattle.dayfile.specs.Scan.{Scan, refused, counted, refuse_at, start, length_refusal, scan}
use Rattle.dayfile.specs.Legs.{none, table_of}
use Rattle.dayfile.specs.Day.{most_cranes, most_calls, day_refusal, day_records}

-- the place of the j-th record from index i: "Bytes 2-3: first place"
abbrev pub stop_from : List Record → ℕ → ℕ → ℕ
stop_from rs i j = (get_or rs (i + j) none).first

-- the day of a file's records: "Then come the cranes (starts), then the calls", and 0 past the counts
unfoldable pub day_of : List Record → State → Day
day_of rs s =
    record {
      places = s.second;
      cranes = s.cranes;
      calls = s.calls;
      starts = padded most_cranes s.cranes (stop_from rs (leg_count s.second)) 0;
      requests = padded most_calls s.calls (stop_from rs (leg_count s.second + s.cranes)) 0;
    }

-- the numbers of places, cranes and calls are within their limits, and the bytes are as long as their records
pub record Room (n k m : ℕ) (bytes : List ℕ) : Type 0 where
  pub places : n ≤ most_places
  pub cranes : k ≤ most_cranes
  pub calls : m ≤ most_calls
  pub long : 12 * (leg_count n + k + m) ≤ length bytes

-- "other results 0"
abbrev pub no_day : Day
no_day = record { places = 0; cranes = 0; calls = 0; starts = replicate most_cranes 0; requests = replicate most_calls 0 }

-- "then 8", with the index 0
abbrev pub ways : List Record → Scan → Scan
ways rs (counted s) = refuse_at 0 (triangle_refusal s.second (run_of s.second (table_of s.second rs))) (counted s)
ways rs (refused n i) = refused n i

-- "File: 1; then record by record ..; then the end: 3, 6; then 8."
unfoldable pub tested : List ℕ → Scan
tested bs = refuse_at 0 (length_refusal (length bs)) (ways (records bs) (scan 0 start (records bs)))

-- the number, 0 where the file is accepted; the index that goes with it, else 0; the day and its table
pub record Answer : Type 0 where
  pub number : ℕ
  pub index : ℕ
  pub day : Day
  pub table : List ℕ

abbrev pub refusal : ℕ → ℕ → Answer
refusal n i = record { number = n; index = i; day = no_day; table = replicate most_legs 0 }

-- a refused file has no day and no table: "other results 0"
abbrev pub answer : Result Reading FileRefusal → Answer
answer (Ok r) = record { number = 0; index = 0; day = r.day; table = r.table }
answer (Err f) = refusal (refusal_number f.refusal) f.index

abbrev pub answer_of : List Record → Scan → Answer
answer_of rs (counted s) = record { number = 0; index = 0; day = day_of rs s; table = table_of s.second rs }
answer_of rs (refused n i) = refusal n i

-- "With the number goes the record's index"
unfoldable pub read_file : List ℕ → Answer
read_file bs = answer_of (records bs) (tested bs)

-- paper 6: of the table that is read "only its legs are the run"
abbrev pub read_table : List ℕ → Table
read_table bs = run_of (read_file bs).day.places (read_file bs).table

-- of what is written into a lent buffer: the number, 0 where it is; how many entries; the whole buffer
pub record Output : Type 0 where
  pub number : ℕ
  pub length : ℕ
  pub buffer : List ℕ

-- the bytes that were written
abbrev pub bytes_written : Output → List ℕ
bytes_written o = take o.length o.buffer

abbrev pub written : Result ℕ Refusal → List ℕ → Output
written (Ok n) out = record { number = 0; length = n; buffer = out }
written (Err r) out = record { number = refusal_number r; length = 0; buffer = out }

-- the file of a day
abbrev pub day_bytes : Day → (ℕ → ℕ → ℕ) → List ℕ
day_bytes day d = encode_all (day_records day d)

-- bytes, or other numbers, written into a buffer where the number is 0: "written output past the result's length is unchanged"; refused, all of it is
abbrev pub output_by : ℕ → List ℕ → List ℕ → Output
output_by number bytes out =
    unless_refused number (record { number = 0; length = length bytes; buffer = splice 0 bytes out }) (λ n. record { number = n; length = 0; buffer = out })

-- after some tests, "output buffer shorter than the result" gives 11
unfoldable pub output_of : ℕ → List ℕ → List ℕ → Output
output_of tests bytes out = output_by (tests then unless (leb (length bytes) (length out)) 11) bytes out

-- a day's file, after the same tests as in memory
abbrev pub write_file : Day → Table → List ℕ → Output
write_file day t out = output_of (day_refusal day t) (day_bytes day (metres_of t)) out
