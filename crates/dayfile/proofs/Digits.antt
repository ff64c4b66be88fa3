-- The bytes of records: what is written is read back, and bytes that are read are written back.
-- Assumes nothing.
use Prim.Native.Nat.{ℕ, zero, suc, ◌+◌, ◌*◌, ◌/◌, ◌%◌, ◌^◌, ◌<◌, ◌≤◌}
use mathlib.Core.List.{List, [], ◌∷◌, ◌++◌, flat_map}
use mathlib.Core.Path.{◌≡◌, refl, sym, ap, ◌∙◌}
use lib.Arith.{lt-one, digits_div, digits_mod}
use lib.ListN.{length, get_or, take, drop, length-drop, take-append-drop}
use lib.Seq.{get_or-drop}
use native.Mathlib.Nat.{add_comm, mul_comm, pow-suc, mod-add-div, div-lt_iff_lt-mul, zero-lt-suc}
use native.Mathlib.Omega.{arith}
use Rattle.base.specs.Lists.{up_to}
use Rattle.base.proofs.Blocks.{Each, each_same, blocks_more, blocks_back}
use Rattle.base.proofs.Lists.{take-up_to}
use Rattle.dayfile.specs.declared.codec.Record.{Record}
use Rattle.dayfile.specs.Codec.{little, bytes_of, two, four, decode, encode, records, encode_all}

-- a list of bytes
abbrev pub Bytes : List ℕ → Type 0
Bytes bs = (i : ℕ) → get_or bs i 0 < 256

digits_back : (n x : ℕ) → x < 256 ^ n → little (bytes_of n x) ≡ x
digits_back zero x h = sym (lt-one h)
digits_back (suc n) x h =
    rw (digits_back n (x / 256) ((div-lt_iff_lt-mul (zero-lt-suc 255)).1 (rw pow-suc at h))) (mod-add-div x 256)

number_back : (bs : List ℕ) → Each (λ b. b < 256) bs → bytes_of (length bs) (little bs) ≡ bs
number_back [] h = refl
number_back (b ∷ bs) h =
    rw (add_comm b (256 * little bs), mul_comm 256 (little bs), digits_mod (little bs) h.0, digits_div (little bs) h.0)
    (ap (λ (l : List ℕ). b ∷ l) (number_back bs h.1))

-- a record whose numbers fit their bytes
pub record Fits (r : Record) : Type 0 where
  pub first : r.first < 65536
  pub second : r.second < 65536
  pub gap : r.gap < 65536
  pub metres : r.metres < 4294967296

decode-encode : (r : Record) (bs : List ℕ) → Fits r → decode (encode r ++ bs) ≡ r
unfolding decode encode
decode-encode r bs f = λ i.
    record {
      kind = r.kind;
      pad = r.pad;
      first = digits_back 2 r.first f.first i;
      second = digits_back 2 r.second f.second i;
      gap = digits_back 2 r.gap f.gap i;
      metres = digits_back 4 r.metres f.metres i;
    }

module _ (bs : List ℕ) (bytes : Bytes bs) where
  two_back : (i : ℕ) → bytes_of 2 (two bs i) ≡ get_or bs i 0 ∷ get_or bs (i + 1) 0 ∷ []
  two_back i = number_back (get_or bs i 0 ∷ get_or bs (i + 1) 0 ∷ []) (bytes i, (bytes (i + 1), tt))

  four_back : (i : ℕ) → bytes_of 4 (four bs i) ≡ get_or bs i 0 ∷ get_or bs (i + 1) 0 ∷ get_or bs (i + 2) 0 ∷ get_or bs (i + 3) 0 ∷ []
  four_back i =
      number_back (get_or bs i 0 ∷ get_or bs (i + 1) 0 ∷ get_or bs (i + 2) 0 ∷ get_or bs (i + 3) 0 ∷ [])
      (bytes i, (bytes (i + 1), (bytes (i + 2), (bytes (i + 3), tt))))

  encode-decode : 12 ≤ length bs → encode (decode bs) ≡ take 12 bs
  unfolding decode encode up_to
  encode-decode h =
      (λ i. get_or bs 0 0 ∷ get_or bs 1 0 ∷ (two_back 2 i ++ (two_back 4 i ++ (two_back 6 i ++ four_back 8 i)))) ∙ sym (take-up_to 12 bs 0 h)

-- records whose numbers fit their bytes
abbrev pub AllFit : List Record → Type 0
AllFit = Each Fits

pub records_back : (rs : List Record) → AllFit rs → records (encode_all rs) ≡ rs
unfolding records encode
records_back rs f =
    blocks_back 12 decode encode (zero-lt-suc 11) rs (each_same (λ r h. refl) rs f) (each_same (λ r h bs. decode-encode r bs h) rs f)

file_back : (n : ℕ) (bs : List ℕ) → Bytes bs → length bs ≡ 12 * n → encode_all (records bs) ≡ bs
unfolding flat_map records up_to
file_back zero [] bytes e = refl
file_back zero (b ∷ bs) bytes e = absurd (omega arith)
file_back (suc n) bs bytes e =
    let h : 12 ≤ length bs = omega arith in
    ap encode_all (blocks_more 12 decode bs (zero-lt-suc 11) h)
    ∙ (λ i. encode-decode bs bytes h i ++ file_back n (drop 12 bs) (λ j. rw get_or-drop (bytes (12 + j))) (rw length-drop (omega arith)) i)
    ∙ take-append-drop 12 bs

pub bytes_back : (bs : List ℕ) → Bytes bs → length bs % 12 ≡ 0 → encode_all (records bs) ≡ bs
bytes_back bs bytes e = file_back (length bs / 12) bs bytes (omega (arith, mod-add-div (length bs) 12))
