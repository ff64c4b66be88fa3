-- The records of a file, tested one after another. What has been read is kept as four numbers: the first and second place
-- of the next leg, were one to come, and how many cranes and calls there were. Where no legs are missing the next leg's
-- first place is 0, and its second place is the number of places: "1 more than the last second place, or 1 with no legs".
use Rattle.std.specs.Prelude.{ℕ, ◌+◌, ◌%◌, ◌<◌, ◌≤◌, Bool, cond, List, [], ◌∷◌, eqb, leb, ltb, Result, Ok, Err}
use Rattle.base.specs.Numbers.{refusal_number, unless, ◌then◌, unless_refused}
use Rattle.base.specs.Tests.{within}
use Rattle.road.specs.Table.{most_places, metres_refusal}
use Rattle.dayfile.specs.declared.FileRefusal.{FileRefusal}
use Rattle.dayfile.specs.declared.codec.Record.{Record}
use Rattle.dayfile.specs.declared.scan.State.{State}
use Rattle.dayfile.specs.Day.{most_cranes, most_calls}

-- "1 leg, 2 crane, 3 call": what is said of each kind
abbrev pub by_kind : {A : Type 0} → ℕ → A → A → A → A
by_kind kind leg crane call = cond (eqb kind 1) leg (cond (eqb kind 2) crane call)

-- before the first record: the next leg is (0,1)
abbrev pub start : State
start = record { first = 0; second = 1; cranes = 0; calls = 0 }

-- what has been read is within its limits
pub record Limited (s : State) : Type 0 where
  pub first : s.first < most_places
  pub second : s.second ≤ most_places
  pub cranes : s.cranes ≤ most_cranes
  pub calls : s.calls ≤ most_calls

-- "in the order (0,1), (0,2), (1,2), (0,3), and so on: by second place, then by first"
unfoldable pub after_leg : State → State
after_leg s =
    cond (eqb (s.first + 1) s.second)
    (record { first = 0; second = s.second + 1; cranes = s.cranes; calls = s.calls })
    (record { first = s.first + 1; second = s.second; cranes = s.cranes; calls = s.calls })

-- what has been read once the record r was accepted
unfoldable pub after : State → Record → State
after s r =
    by_kind r.kind (after_leg s)
    (record { first = s.first; second = s.second; cranes = s.cranes + 1; calls = s.calls })
    (record { first = s.first; second = s.second; cranes = s.cranes; calls = s.calls + 1 })

-- "file length not a multiple of 12, or above 27,456"
unfoldable pub length_refusal : ℕ → ℕ
length_refusal n = unless (eqb (n % 12) 0) 1 then unless (leb n 27456) 1

-- "Bytes 4-5: second place, for a leg, else 0. Bytes 8-11: metres for a leg, else 0."
unfoldable pub bare_refusal : Record → ℕ
bare_refusal r = unless (eqb r.second 0) 2 then unless (eqb r.metres 0) 2

-- "record with another kind, or a byte that should be 0 and isn't"
unfoldable pub form_refusal : Record → ℕ
form_refusal r =
    unless (within 1 3 r.kind) 2 then unless (eqb r.pad 0) 2 then unless (eqb r.gap 0) 2 then
    cond (eqb r.kind 1) 0 (bare_refusal r)

-- "record out of order": a leg after a crane, or another than the next; "a leg's second place above 63"; then its metres
unfoldable pub leg_refusal : State → Record → ℕ
leg_refusal s r =
    unless (eqb s.cranes 0) 3 then unless (eqb r.first s.first) 3 then unless (eqb r.second s.second) 3 then
    unless (ltb r.second most_places) 3 then metres_refusal r.metres

-- "a second place with legs missing .. met at the first record that isn't a leg, or at the end"
abbrev pub missing_refusal : State → ℕ
missing_refusal s = unless (eqb s.first 0) 3

-- "a place not below the number of places"
abbrev pub place_refusal : State → Record → ℕ
place_refusal s r = unless (ltb r.first s.second) 5

-- a crane or a call: legs missing; its place; then the rule that the cranes before it must keep
unfoldable pub stop_refusal : State → Record → Bool → ℕ
stop_refusal s r rule = missing_refusal s then place_refusal s r then unless rule 6

-- "record out of order": a crane after a call; "seventeenth crane"
unfoldable pub crane_refusal : State → Record → ℕ
crane_refusal s r = unless (eqb s.calls 0) 3 then stop_refusal s r (ltb s.cranes most_cranes)

-- "a call before any crane"; "calls above 256"
unfoldable pub call_refusal : State → Record → ℕ
call_refusal s r = stop_refusal s r (ltb 0 s.cranes) then unless (ltb s.calls most_calls) 7

-- "each tested 2, 3, 4, 5, 6 .., 7"
unfoldable pub record_refusal : State → Record → ℕ
record_refusal s r = form_refusal r then by_kind r.kind (leg_refusal s r) (crane_refusal s r) (call_refusal s r)

-- "then the end: 3, 6"
unfoldable pub end_refusal : State → ℕ
end_refusal s = missing_refusal s then unless (ltb 0 s.cranes) 6

-- what testing a file gives: the refusal with a record's index, or what was read
pub data Scan : Type 0 where
  refused : ℕ → ℕ → Scan
  counted : State → Scan

-- what a scan that ends tells: what was read, or the refusal with its index
abbrev pub scanned : Result State FileRefusal → Scan
scanned (Ok s) = counted s
scanned (Err f) = refused (refusal_number f.refusal) f.index

-- a refusal with the index that goes with it, else what comes after
abbrev pub refuse_at : ℕ → ℕ → Scan → Scan
refuse_at i n rest = unless_refused n rest (λ m. refused m i)

-- "record by record, first to last": the record's index from 0; "at the end, the count of records"
unfoldable pub scan : ℕ → State → List Record → Scan
scan i s [] = refuse_at i (end_refusal s) (counted s)
scan i s (r ∷ rs) = refuse_at i (record_refusal s r) (scan (i + 1) (after s r) rs)
