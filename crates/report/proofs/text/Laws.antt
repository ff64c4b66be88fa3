-- The laws of the print: the digits of a number, and text written behind text.
-- Assumes nothing.
use Prim.Native.Nat.{ℕ, zero, suc, ◌+◌, ◌-◌, ◌*◌, ◌/◌, ◌%◌, ◌^◌, ◌<◌, ◌≤◌, zero-le}
use mathlib.Core.List.{List, [], ◌∷◌, ◌++◌, append_assoc, append-nil}
use mathlib.Core.Bool.{false}
use mathlib.Core.Path.{◌≡◌, refl, sym, ◌∙◌}
use borrow.Author.Tests.{eq-eqb, ne_eqb, lt-ltb}
use native.Mathlib.Decide.{dec_lt}
use lib.ListN.{length, take, drop, length-append}
use lib.Seq.{take_at}
use native.Mathlib.Nat.{not-suc-le-zero, zero-lt-suc, le_of_suc-le-suc, mod-lt, mod-eq_of_lt, div-eq_of_lt}
use native.Mathlib.Numerals.{add-one}
use native.Mathlib.Omega.{arith}
use Rattle.base.specs.Decimal.{up_to_digits, decimal}
use Rattle.base.proofs.Decimal.{digits_more, fewer_digits, length-decimal}
use Rattle.base.proofs.Lists.{splice-none, splice_on}
use Rattle.std.specs.Fmt.{digits_onto, digits, decimal as written}
use Rattle.dayfile.specs.Day.{most_calls}
use Rattle.report.specs.Text.{call_line, last_line, refused_line, call_lines, day_text}
use Rattle.report.specs.Put.{Put}

-- ---- digits

-- the digits that the kit writes: one, and one more behind others
onto_one : (k m n : ℕ) (acc : List ℕ) → n < 10 → digits_onto (suc m) 10 false n acc ≡ up_to_digits (suc k) n ++ acc
unfolding up_to_digits
onto_one k m n acc h =
    let none : n / 10 ≡ 0 = div-eq_of_lt h in
    rw (eq-eqb (n / 10) 0 none, mod-eq_of_lt h, lt-ltb n 10 h)

onto_more : (k m n : ℕ) (acc : List ℕ)
    → digits_onto (suc m) 10 false (n / 10) ((48 + n % 10) ∷ acc) ≡ up_to_digits (suc k) (n / 10) ++ ((48 + n % 10) ∷ acc)
    → Dec (n < 10) → digits_onto (suc (suc m)) 10 false n acc ≡ up_to_digits (suc (suc k)) n ++ acc
onto_more k m n acc more (yes h) = onto_one (suc k) (suc m) n acc h
onto_more k m n acc more (no ge) =
    let ten : 10 ≤ n = omega arith in
    let some : n / 10 ≡ 0 → ⊥ = λ e. omega arith in
    rw (ne_eqb (n / 10) 0 some, lt-ltb (n % 10) 10 (mod-lt n (zero-lt-suc 9)), digits_more (suc k) n ten)
    (more ∙ sym (append_assoc (up_to_digits (suc k) (n / 10)) ((48 + n % 10) ∷ []) acc))

-- so they are those of a number of at most suc k digits
onto_digits : (k m n : ℕ) (acc : List ℕ) → k ≤ m → n < 10 ^ suc k → digits_onto (suc m) 10 false n acc ≡ up_to_digits (suc k) n ++ acc
onto_digits zero m n acc fits most = onto_one zero m n acc (omega arith)
onto_digits (suc k) zero n acc fits most = absurd (not-suc-le-zero fits)
onto_digits (suc k) (suc m) n acc fits most =
    onto_more k m n acc (onto_digits k m (n / 10) ((48 + n % 10) ∷ acc) (le_of_suc-le-suc fits) (fewer_digits (suc k) n most)) (dec_lt n 10)

-- the kit's decimal of a number of 64 bits is its decimal
pub decimal_same : (n : ℕ) → n < 2 ^ 64 → written n ≡ decimal n
unfolding decimal digits
decimal_same n h = onto_digits 19 63 n [] (omega arith) (omega arith) ∙ append-nil _

-- so what the kit writes at the end of an array of 20 bytes is the decimal
pub decimal_end : (n start : ℕ) (bytes rest : List ℕ) → n < 2 ^ 64 → start + length (written n) ≡ 20 → drop start bytes ≡ written n ++ rest
    → take (20 - start) (drop start bytes) ≡ decimal n
decimal_end n start bytes rest h long e =
    let same = decimal_same n h in
    let left : length (written n) ≡ 20 - start = omega arith in
    rw e (take_at (written n) rest (20 - start) left ∙ same)

-- ---- text behind text

pub put_on : {a b old mid now : List ℕ} {at x y : ℕ} → Put a old at mid x → Put b mid x now y → y ≤ length old
    → Put (a ++ b) old at now y
put_on {a} {b} {old} {at = at} p q h =
    record {
      buffer = q.buffer ∙ rw (p.buffer, p.behind) (splice_on at a b old (omega (arith, p.behind, q.behind)));
      behind = omega (arith, p.behind, q.behind, length-append a b);
    }

-- ---- how long the lines are at most

pub length-last_line : (driven home floor : ℕ) → length (last_line driven home floor) ≤ 81
unfolding last_line
length-last_line driven home floor =
    simp length-append (omega (arith, length-decimal driven, length-decimal home, length-decimal floor))

pub length-refused_line : (number index : ℕ) → length (refused_line number index) ≤ 57
unfolding refused_line
length-refused_line number index = simp length-append (omega (arith, length-decimal number, length-decimal index))

length-call_line : (i crane metres least : ℕ) → length (call_line i crane metres least) ≤ 108
unfolding call_line
length-call_line i crane metres least =
    simp length-append (omega (arith, length-decimal i, length-decimal crane, length-decimal metres, length-decimal least))

-- ---- the lines of the calls

module _ (f g h : ℕ → ℕ) where
  length-call_lines : (m : ℕ) → length (call_lines m f g h) ≤ 108 * m
  unfolding call_lines
  length-call_lines zero = zero-le
  length-call_lines (suc m) = rw length-append (omega (arith, length-call_lines m, length-call_line m (f m) (g m) (h m)))

  -- the text of a day fits
  pub day_fits : (m driven home floor : ℕ) → m ≤ most_calls → length (day_text m f g h driven home floor) ≤ 32768
  unfolding day_text
  day_fits m driven home floor few = rw length-append (omega (arith, length-call_lines m, length-last_line driven home floor))

  pub calls_most : (m : ℕ) {old now : List ℕ} {x : ℕ} → Put (call_lines m f g h) old 0 now x → x ≤ 108 * m
  calls_most m p = omega (arith, p.behind, length-call_lines m)

  pub no_calls_put : (old : List ℕ) → Put (call_lines 0 f g h) old 0 old 0
  unfolding call_lines
  no_calls_put old = record { buffer = splice-none 0 old zero-le; behind = refl }

  pub call_put : (i : ℕ) {old mid now : List ℕ} {x y : ℕ} → 108 * (i + 1) ≤ length old → Put (call_lines i f g h) old 0 mid x
      → Put (call_line i (f i) (g i) (h i)) mid x now y → Put (call_lines (i + 1) f g h) old 0 now y
  unfolding call_lines
  call_put i fits p q =
      rw add-one (put_on p q (omega (arith, q.behind, calls_most i p, length-call_line i (f i) (g i) (h i))))
