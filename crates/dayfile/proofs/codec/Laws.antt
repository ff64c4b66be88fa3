-- The laws of a record's 12 bytes, read and written, and of the bytes of several records.
-- Assumes nothing.
use Prim.Native.Nat.{ℕ, ◌+◌, ◌*◌, ◌/◌, ◌%◌, ◌<◌, ◌≤◌}
use mathlib.Core.List.{List, [], ◌∷◌, ◌++◌, flat_map}
use mathlib.Core.Path.{◌≡◌, refl, ap, ◌∙◌}
use lib.ListN.{length, get_or, drop, length-append}
use lib.Seq.{get_or-drop}
use native.Mathlib.Nat.{add-zero}
use native.Mathlib.Omega.{arith}
use Rattle.base.specs.Lists.{up_to, splice}
use Rattle.base.proofs.Blocks.{each_all, flat_map-append, flat_map-one, length-flat_map}
use Rattle.base.proofs.Lists.{length-up_to, get_or-up_to, up_to_more, splice_on, Spliced, splice_begun, splice_turned}
use Rattle.dayfile.specs.declared.codec.Record.{Record}
use Rattle.dayfile.specs.Codec.{bytes_of, two, four, decode, encode, records, encode_all}
use Rattle.dayfile.specs.Legs.{none}

module _ (bs : List ℕ) (at i : ℕ) where
  -- the numbers in two and in four bytes, the lowest byte first, by what each byte is worth
  two_read : get_or bs (at + i) 0 + get_or bs (at + (i + 1)) 0 * 256 ≡ two (drop at bs) i
  two_read = simp get_or-drop (omega arith)

  four_read : get_or bs (at + i) 0 + get_or bs (at + (i + 1)) 0 * 256 + get_or bs (at + (i + 2)) 0 * 65536 + get_or bs (at + (i + 3)) 0 * 16777216
      ≡ four (drop at bs) i
  four_read = simp get_or-drop (omega arith)

-- the record of the fields, each by its own bytes
pub decoded : (bs : List ℕ) (at f s g m : ℕ)
    → f ≡ get_or bs (at + 2) 0 + get_or bs (at + 3) 0 * 256
    → s ≡ get_or bs (at + 4) 0 + get_or bs (at + 5) 0 * 256
    → g ≡ get_or bs (at + 6) 0 + get_or bs (at + 7) 0 * 256
    → m ≡ get_or bs (at + 8) 0 + get_or bs (at + 9) 0 * 256 + get_or bs (at + 10) 0 * 65536 + get_or bs (at + 11) 0 * 16777216
    → record { kind = get_or bs at 0; pad = get_or bs (at + 1) 0; first = f; second = s; gap = g; metres = m } ≡ decode (drop at bs)
unfolding decode
decoded bs at f s g m p q r t =
    rw (p, q, r, t, two_read bs at 2, two_read bs at 4, two_read bs at 6, four_read bs at 8, get_or-drop at bs 0 0, get_or-drop at bs 1 0, add-zero at)

-- the bytes of a number, each by what it is worth
pub bytes_told : (x : ℕ) → x % 256 ∷ x / 256 % 256 ∷ x / 65536 % 256 ∷ x / 16777216 % 256 ∷ [] ≡ bytes_of 4 x
bytes_told x =
    let second : x / 65536 ≡ x / 256 / 256 = omega arith in
    let third : x / 16777216 ≡ x / 256 / 256 / 256 = omega arith in
    rw (second, third)

pub length-records : (bs : List ℕ) → length (records bs) ≡ length bs / 12
unfolding records
length-records bs = length-up_to (length bs / 12) _

-- the record of an index
pub record_at : (bs : List ℕ) (i : ℕ) → i < length bs / 12 → get_or (records bs) i none ≡ decode (drop (12 * i) bs)
unfolding records
record_at bs i h = get_or-up_to (length bs / 12) (λ (j : ℕ). decode (drop (12 * j) bs)) i none h

length-encode : (r : Record) → length (encode r) ≡ 12
unfolding encode
length-encode r = refl

encode_all-one : (r : Record) → encode_all (r ∷ []) ≡ encode r
encode_all-one r = flat_map-one encode r

pub length-encode_all : (rs : List Record) → length (encode_all rs) ≡ 12 * length rs
length-encode_all rs = length-flat_map encode 12 rs (each_all (λ r. length-encode r) rs)

-- records written behind others are all of them written
pub put_on : (from : ℕ) (rs : List Record) (old : List ℕ) (qs : List Record) → 12 * (from + length (rs ++ qs)) ≤ length old
    → splice (12 * (from + length rs)) (encode_all qs) (splice (12 * from) (encode_all rs) old) ≡ splice (12 * from) (encode_all (rs ++ qs)) old
put_on from rs old qs h =
    let e : 12 * (from + length rs) ≡ 12 * from + length (encode_all rs) = rw length-encode_all (omega arith) in
    rw (flat_map-append encode rs qs, e)
    (splice_on (12 * from) (encode_all rs) (encode_all qs) old (rw (length-encode_all rs, length-encode_all qs) (omega (arith, length-append rs qs))))

-- the invariant of a loop that writes records one behind another, from the record of index from: after i turns of n those of first i
abbrev pub Put : (ℕ → List Record) → ℕ → List ℕ → ℕ → List ℕ → ℕ → Type 0
Put first from = Spliced (λ i. encode_all (first i)) (12 * from)

module _ (first : ℕ → List Record) (from : ℕ) (old : List ℕ) (n : ℕ) where
  pub put_begun : first 0 ≡ [] → 12 * from ≤ length old → Put first from old n old 0
  unfolding flat_map
  put_begun e h = splice_begun (λ i. encode_all (first i)) (12 * from) old n (ap encode_all e) h

  -- a turn writes the records qs
  pub put_turned : (now new : List ℕ) (i : ℕ) (qs : List Record) → first (i + 1) ≡ first i ++ qs → 12 * (from + length (first (i + 1))) ≤ length old
      → Put first from old n now i → i < n → new ≡ splice (12 * (from + length (first i))) (encode_all qs) now → Put first from old n new (i + 1)
  put_turned now new i qs more fits p lt e =
      let at : 12 * (from + length (first i)) ≡ 12 * from + length (encode_all (first i)) = rw length-encode_all (omega arith) in
      splice_turned (λ i. encode_all (first i)) (12 * from) old n now new (encode_all qs) i (ap encode_all more ∙ flat_map-append encode (first i) qs)
      (rw length-encode_all (omega arith)) p lt (rw at at e)

-- a loop that writes one record a turn, that of its index
module _ (next : ℕ → Record) (from : ℕ) (old : List ℕ) (n : ℕ) (fits : 12 * (from + n) ≤ length old) where
  pub put_one_begun : Put (λ i. up_to i next) from old n old 0
  unfolding up_to
  put_one_begun = put_begun (λ i. up_to i next) from old n refl (omega arith)

  pub put_one_turned : (now new : List ℕ) (i : ℕ) (r : Record) → Put (λ i. up_to i next) from old n now i → i < n
      → r ≡ next i → new ≡ splice (12 * (from + i)) (encode r) now → Put (λ i. up_to i next) from old n new (i + 1)
  put_one_turned now new i r p lt e w =
      put_turned (λ i. up_to i next) from old n now new i (next i ∷ []) (up_to_more i next) (rw length-up_to (omega arith)) p lt
      (rw (length-up_to i next, encode_all-one (next i), ← e) w)
