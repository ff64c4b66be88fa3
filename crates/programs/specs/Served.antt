-- What a program has done that reads a day file and writes a text of it.
use Rattle.std.specs.Prelude.{ℕ, ◌<◌, List, [], ◌∷◌, length}
use Rattle.std.specs.declared.option.Option.{Option}
use Rattle.programs.specs.declared.Failure.{Failure}
use Rattle.programs.specs.declared.Failure.TheVariants.{Read, Write}
use Rattle.std.specs.Io.KnownBytes.{Consumes, Appends, IsAtEnd}

-- From the known bytes that a reader had and has left, and those that a writer held and holds: a file was read, to the end of the reader or as
-- long as no day file is, and its text was written.
abbrev pub Served : (List ℕ → List ℕ) → Option (List ℕ) → Option (List ℕ) → Option (List ℕ) → Option (List ℕ) → Type 0
Served text from left held now = (file : List ℕ) × Consumes from left file × (length file < 27457 → IsAtEnd left) × Appends held now (text file)

-- the words for each failure: "read failed", "write failed"
abbrev pub failure_text : Failure → List ℕ
failure_text Read = 114 ∷ 101 ∷ 97 ∷ 100 ∷ 32 ∷ 102 ∷ 97 ∷ 105 ∷ 108 ∷ 101 ∷ 100 ∷ []
failure_text Write = 119 ∷ 114 ∷ 105 ∷ 116 ∷ 101 ∷ 32 ∷ 102 ∷ 97 ∷ 105 ∷ 108 ∷ 101 ∷ 100 ∷ []
