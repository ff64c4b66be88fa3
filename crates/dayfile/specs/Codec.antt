-- The bytes of a record: "Records of 12 bytes, no header, little-endian."
use Rattle.std.specs.Prelude.{ℕ, zero, suc, ◌+◌, ◌*◌, ◌/◌, ◌%◌, get_or}
use mathlib.Core.List.{List, [], ◌∷◌, ◌++◌, flat_map}
use Rattle.std.specs.Prelude.{◌≡◌, false, Result, Ok, Err}
use Rattle.base.specs.Lists.{blocks}
use Rattle.base.specs.Tests.{within}
use Rattle.base.specs.declared.Refusal.{Refusal}
use Rattle.base.specs.declared.Refusal.TheVariants as Refused
use Rattle.dayfile.specs.declared.codec.Kind.{Kind}
use Rattle.dayfile.specs.declared.codec.Kind.TheVariants.{Leg, Crane, Call}
use Rattle.dayfile.specs.declared.codec.Record.{Record}

-- the number in a list of bytes, the lowest first
abbrev pub little : List ℕ → ℕ
little [] = 0
little (b ∷ bs) = b + 256 * little bs

-- a number as so many bytes, the lowest first
abbrev pub bytes_of : ℕ → ℕ → List ℕ
bytes_of zero x = []
bytes_of (suc n) x = x % 256 ∷ bytes_of n (x / 256)

-- the numbers in two and in four bytes from index i
abbrev pub two : List ℕ → ℕ → ℕ
two bs i = little (get_or bs i 0 ∷ get_or bs (i + 1) 0 ∷ [])

abbrev pub four : List ℕ → ℕ → ℕ
four bs i = little (get_or bs i 0 ∷ get_or bs (i + 1) 0 ∷ get_or bs (i + 2) 0 ∷ get_or bs (i + 3) 0 ∷ [])

-- "Byte 0 is the kind: 1 leg, 2 crane, 3 call."
abbrev pub kind_number : Kind → ℕ
kind_number Leg = 1
kind_number Crane = 2
kind_number Call = 3

-- a byte is that of the kind, or of none
abbrev pub HasKind : ℕ → Result Kind Refusal → Type 0
HasKind byte (Ok kind) = kind_number kind ≡ byte
HasKind byte (Err r) = (r ≡ Refused.Record) × (within 1 3 byte ≡ false)

-- "Byte 0 is the kind .. Bytes 2-3: first place. Bytes 4-5: second place .. Bytes 8-11: metres"
unfoldable pub decode : List ℕ → Record
decode bs =
    record {
      kind = get_or bs 0 0;
      pad = get_or bs 1 0;
      first = two bs 2;
      second = two bs 4;
      gap = two bs 6;
      metres = four bs 8;
    }

-- the same bytes of a record that is written
unfoldable pub encode : Record → List ℕ
encode r = r.kind ∷ r.pad ∷ (bytes_of 2 r.first ++ (bytes_of 2 r.second ++ (bytes_of 2 r.gap ++ bytes_of 4 r.metres)))

-- "Records of 12 bytes, no header": the records of a file, whose length is tested before
unfoldable pub records : List ℕ → List Record
records bs = blocks 12 decode bs

-- the file of some records
abbrev pub encode_all : List Record → List ℕ
encode_all rs = flat_map encode rs
