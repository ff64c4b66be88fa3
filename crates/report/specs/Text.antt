-- The text that the program prints: "lines, each ended by a line feed (byte 10)".
use Rattle.std.specs.Prelude.{ℕ, zero, suc, List, [], ◌∷◌, ◌++◌}
use Rattle.base.specs.Decimal.{decimal}

-- a word, and a number behind it
abbrev pub field : List ℕ → ℕ → List ℕ
field word n = word ++ decimal n

-- "Each call line has the call's number, the crane, its drive and the least cost after it": behind the words `call `, ` crane `,
-- ` metres ` and ` least `
unfoldable pub call_line : ℕ → ℕ → ℕ → ℕ → List ℕ
call_line i crane metres least =
    field (99 ∷ 97 ∷ 108 ∷ 108 ∷ 32 ∷ []) i ++ field (32 ∷ 99 ∷ 114 ∷ 97 ∷ 110 ∷ 101 ∷ 32 ∷ []) crane ++
    field (32 ∷ 109 ∷ 101 ∷ 116 ∷ 114 ∷ 101 ∷ 115 ∷ 32 ∷ []) metres ++ field (32 ∷ 108 ∷ 101 ∷ 97 ∷ 115 ∷ 116 ∷ 32 ∷ []) least ++
    (10 ∷ [])

-- "the last line has the sum of the drives and the floor", and paper 8's "way home" between them: behind the words `driven `, ` home ` and
-- ` floor `
unfoldable pub last_line : ℕ → ℕ → ℕ → List ℕ
last_line driven home floor =
    field (100 ∷ 114 ∷ 105 ∷ 118 ∷ 101 ∷ 110 ∷ 32 ∷ []) driven ++ field (32 ∷ 104 ∷ 111 ∷ 109 ∷ 101 ∷ 32 ∷ []) home ++
    field (32 ∷ 102 ∷ 108 ∷ 111 ∷ 111 ∷ 114 ∷ 32 ∷ []) floor ++ (10 ∷ [])

-- "A refusal writes one line, `refused N record I`."
unfoldable pub refused_line : ℕ → ℕ → List ℕ
refused_line number index =
    field (114 ∷ 101 ∷ 102 ∷ 117 ∷ 115 ∷ 101 ∷ 100 ∷ 32 ∷ []) number ++ field (32 ∷ 114 ∷ 101 ∷ 99 ∷ 111 ∷ 114 ∷ 100 ∷ 32 ∷ []) index ++
    (10 ∷ [])

-- the lines of the first m calls, call i with the crane f i, the metres g i and the least h i
unfoldable pub call_lines : ℕ → (ℕ → ℕ) → (ℕ → ℕ) → (ℕ → ℕ) → List ℕ
call_lines zero f g h = []
call_lines (suc m) f g h = call_lines m f g h ++ call_line m (f m) (g m) (h m)

-- the print of a served day: "each call line", then "the last line"
unfoldable pub day_text : ℕ → (ℕ → ℕ) → (ℕ → ℕ) → (ℕ → ℕ) → ℕ → ℕ → ℕ → List ℕ
day_text m f g h driven home floor = call_lines m f g h ++ last_line driven home floor
