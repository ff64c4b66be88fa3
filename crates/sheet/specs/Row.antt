-- A row of the sheet: its 28 bytes, and its values read back from them.
use Rattle.std.specs.Prelude.{ℕ, ◌+◌, ◌-◌, ◌*◌, ◌^◌, ◌<◌, ◌≤◌, cond, eqb, length, take, drop, replicate}
use mathlib.Core.List.{List, [], ◌∷◌, ◌++◌, foldl}
use Rattle.base.specs.Decimal.{decimal}
use Rattle.sheet.specs.declared.row.Row.{Row}

-- paper 2: "all aligned right with blanks", in w bytes. No digit is cut off: a number of more than w digits would be wider
unfoldable pub aligned : ℕ → ℕ → List ℕ
aligned w n = replicate (w - length (decimal n)) 32 ++ decimal n

-- a number aligned right, and the byte behind it
abbrev pub column : ℕ → ℕ → ℕ → List ℕ
column w n end = aligned w n ++ (end ∷ [])

-- paper 2: "rows of 28 bytes: call number 3 wide, place 2, crane 2, metres 7, least 9, one blank between, .. then a line feed (byte 10)"
unfoldable pub row_bytes : Row → List ℕ
row_bytes r = column 3 r.call 32 ++ column 2 r.place 32 ++ column 2 r.crane 32 ++ column 7 r.metres 32 ++ column 9 r.least 10

-- paper 2: "Every value .. fits": none has more digits than its column is wide
pub record Fits (r : Row) : Type 0 where
  pub call : r.call < 10 ^ 3
  pub place : r.place < 10 ^ 2
  pub crane : r.crane < 10 ^ 2
  pub metres : r.metres < 10 ^ 7
  pub least : r.least < 10 ^ 9

-- the number whose digits stand in some bytes; blanks are skipped
unfoldable pub value_of : List ℕ → ℕ
value_of bs = foldl (λ n b. cond (eqb b 32) n (10 * n + (b - 48))) 0 bs

-- paper 2: "Reading a sheet's digits back": the values of a row, each from the bytes of its column
unfoldable pub read_row : List ℕ → Row
read_row bs =
    record {
      call = value_of (take 3 bs);
      place = value_of (take 2 (drop 4 bs));
      crane = value_of (take 2 (drop 7 bs));
      metres = value_of (take 7 (drop 10 bs));
      least = value_of (take 9 (drop 18 bs));
    }

-- what the private function that writes a column is given: a number that fits, and the room for it and the byte behind it
pub record ColumnGiven (n w at : ℕ) (out : List ℕ) : Type 0 where
  pub wide : 0 < w
  pub fits : n < 10 ^ w
  pub room : at + w + 1 ≤ length out
