-- The legs of a file: their records, and the road table that they make.
use Rattle.std.specs.Prelude.{ℕ, List, get_or}
use Rattle.base.specs.Lists.{padded}
use Rattle.road.specs.Table.{most_legs, leg_count, in_order}
use Rattle.dayfile.specs.declared.codec.Record.{Record}

-- a leg's record
abbrev pub leg : ℕ → ℕ → ℕ → Record
leg u v m = record { kind = 1; pad = 0; first = u; second = v; gap = 0; metres = m }

-- the records of the legs between the places below n, with the metres of d
abbrev pub leg_records : (ℕ → ℕ → ℕ) → ℕ → List Record
leg_records d n = in_order (λ u v. leg u v (d u v)) n

-- past the last record
abbrev pub none : Record
none = record { kind = 0; pad = 0; first = 0; second = 0; gap = 0; metres = 0 }

-- "Bytes 8-11: metres for a leg": those of the record of index i
abbrev pub metres_at : List Record → ℕ → ℕ
metres_at rs i = (get_or rs i none).metres

-- the table of n places; paper 6: "The day-file reader still returns its table by value, 0 past its legs"
unfoldable pub table_of : ℕ → List Record → List ℕ
table_of n rs = padded most_legs (leg_count n) (metres_at rs) 0
