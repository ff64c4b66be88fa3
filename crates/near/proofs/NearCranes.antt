-- What is told of the cranes near a place: a refusal with zeros and the buffer as it was, or the first cranes in their order.
-- Assumes nothing.
use Prim.Native.Nat.{ℕ, zero, suc, ◌<◌, ◌≤◌}
use mathlib.Core.List.{List, [], ◌∷◌}
use mathlib.Core.Path.{◌≡◌, refl, sym, ap, ◌∙◌}
use lib.Dec.{leb}
use lib.ListN.{length, get_or, take}
use native.Mathlib.Nat.{le_refl, lt_of_lt_of_le}
use Rattle.base.specs.Lists.{up_to, padded, splice}
use Rattle.base.specs.Numbers.{unless_refused}
use Rattle.base.proofs.Lists.{length-up_to, take-padded}
use Rattle.base.proofs.Numbers.{unless-zero, then_zero, zeros_told}
use Rattle.road.specs.Table.{Table, most_places, metres_of}
use Rattle.dayfile.specs.Day.{most_cranes}
use Rattle.dayfile.specs.File.{Output, output_of}
use Rattle.dayfile.proofs.Limits.{stop_below}
use Rattle.dayfile.proofs.Outputs.{output_refused, output-short, output-written}
use Rattle.workfunction.specs.Choice.{drive}
use Rattle.book.specs.declared.Book.{Book}
use Rattle.book.specs.Book.{stands_of, BookArrays, book_refusal}
use Rattle.book.proofs.Sound.{Sound, book_sound}
use Rattle.near.specs.Count.{count}
use Rattle.near.specs.Near.{nth, cranes_within, nearest, drives_of, near_refusal, NearCranes, near_after, near_of}
use Rattle.near.proofs.Standing.{as_many_stands, some_stand}
use Rattle.near.proofs.order.Laws.{within_front, nearest-nth}

-- the list that was written, and the nearest beside it
beside : (metres : List ℕ) (told list : Output) (s : ℕ) → told ≡ list → unless_refused told.number (nearest metres) (λ m. 0) ≡ s
    → ◌≡◌ {A = NearCranes} (record { list = told; nearest = s })
    (record { list = list; nearest = unless_refused list.number (nearest metres) (λ m. 0) })
beside metres told list s e h = rw (← e, h)

-- metres that agree where the tests accept
pub near_alike : (tests : ℕ) (metres others : List ℕ) (distance : ℕ) (out : List ℕ) → (tests ≡ 0 → metres ≡ others)
    → near_after tests metres distance out ≡ near_after tests others distance out
unfolding near_after output_of
near_alike zero metres others distance out same = rw (same refl)
near_alike (suc m) metres others distance out same = refl

module _ (book : Book) (n : ℕ) (t : Table) (place : ℕ) where
  abbrev metres : List ℕ
  metres = drives_of book t place

  -- a refusal of a test
  pub near_refused : (distance : ℕ) (out : List ℕ) (m : ℕ) → m ≡ near_refusal book n t place → (m ≡ 0 → ⊥)
      → ◌≡◌ {A = NearCranes} (record { list = record { number = m; length = 0; buffer = out }; nearest = 0 }) (near_of book n t place distance out)
  unfolding near_of near_after
  near_refused distance out m e h = beside metres _ _ 0 (output_refused _ _ out m e h) (sym (zeros_told m (nearest metres) (λ k. 0) h))

  module _ (accepted : near_refusal book n t place ≡ 0) where
    pub near_sound : Sound book n t
    near_sound = book_sound (then_zero (book_refusal book n t) _ accepted).0

    pub near_placed : place < most_places
    near_placed = lt_of_lt_of_le (stop_below n (place ∷ []) (unless-zero _ 4 (then_zero (book_refusal book n t) _ accepted).1) 0 (le_refl 1)) near_sound.counts.places

    module _ (arrays : BookArrays book) where
      -- what was looked up for each crane
      pub drives_taken : (found : List ℕ) → found ≡ padded most_cranes (length (stands_of book)) (drive (metres_of t) (stands_of book) place) 0
          → take book.cranes found ≡ metres
      drives_taken found e =
          ap (λ (k : ℕ). take k found) (as_many_stands arrays near_sound) ∙ ap (take (length (stands_of book))) e
          ∙ take-padded most_cranes (length (stands_of book)) (drive (metres_of t) (stands_of book) place) 0

      module _ (distance : ℕ) (out : List ℕ) (c : ℕ) (counted : c ≡ count (length metres) (λ s. leb (get_or metres s 0) distance)) where
        listed : cranes_within metres distance ≡ up_to c (nth metres)
        listed = rw counted (within_front metres distance)

        long : length (cranes_within metres distance) ≡ c
        long = ap length listed ∙ length-up_to c (nth metres)

        -- 11
        pub near_short : length out < c
            → ◌≡◌ {A = NearCranes} (record { list = record { number = 11; length = 0; buffer = out }; nearest = 0 }) (near_of book n t place distance out)
        unfolding near_of near_after
        near_short h = beside metres _ _ 0 (output-short _ _ out accepted long h) refl

        pub near_told : (now : List ℕ) (s : ℕ) → c ≤ length out → now ≡ splice 0 (up_to c (nth metres)) out → s ≡ nth metres 0
            → ◌≡◌ {A = NearCranes} (record { list = record { number = 0; length = c; buffer = now }; nearest = s }) (near_of book n t place distance out)
        unfolding near_of near_after
        near_told now s h e first =
            beside metres _ _ s (output-written _ _ out accepted long now h (rw listed e))
            (nearest-nth metres (rw length-up_to (some_stand arrays near_sound)) ∙ sym first)
