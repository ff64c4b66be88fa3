-- What is promised of the cranes near a place and of the places that hold one, for every book, table, place, distance and buffer.
-- Assumes nothing.
use Prim.Native.Nat.{ℕ, ◌<◌, ◌≤◌}
use mathlib.Core.Bool.{true, false, not}
use mathlib.Core.List.{List, Memᴰ}
use mathlib.Core.Logic.{◌⊎◌, ⊎_elim}
use mathlib.Core.Path.{◌≡◌, refl, sym, ap, subst, ◌∙◌}
use borrow.Author.Tests.{le-leb, not-true, not-false}
use lib.Dec.{leb, ltb}
use lib.ListN.{length, get_or, drop}
use native.Mathlib.Decide.{ℕ_discrete}
use native.Mathlib.Nat.{lt_irrefl, le_of_lt, le_of_eq}
use native.Mathlib.Omega.{arith}
use Rattle.base.specs.Numbers.{unless, ◌then◌, unless_refused}
use Rattle.base.proofs.Lists.{length-up_to, get_or-up_to}
use Rattle.base.specs.Tests.{all_below}
use Rattle.base.proofs.Numbers.{then_assoc, zeros_told, accepted_values}
use Rattle.base.proofs.Tests.{by_order}
use Rattle.road.specs.Table.{Table, metres_of}
use Rattle.dayfile.proofs.Outputs.{output_number, output_kept, output_accepted, output_bytes, output_past}
use Rattle.workfunction.specs.Choice.{drive}
use Rattle.workfunction.specs.Movement.{contains}
use Rattle.workfunction.proofs.Movement.{contains_yes, contains_in}
use Rattle.workfunction.proofs.Sums.{slot_of, entry_in}
use Rattle.book.specs.declared.Book.{Book}
use Rattle.book.specs.Book.{stands_of, BookArrays, SameBook, book_refusal}
use Rattle.book.proofs.Ignored.{past_counts_ignored}
use Rattle.book.proofs.Sound.{Sound, book_sound}
use Rattle.near.specs.Count.{count, first}
use Rattle.near.specs.Near.{precedes, cranes_within, nearest, drives_of, near_refusal, NearCranes, near_after, near_of, cranes_told}
use Rattle.near.specs.Occupancy.{holds_crane, HeldPlaces, occupancy_of}
use Rattle.near.proofs.Count.{first_most, first-none, first_passes, first-lowest}
use Rattle.near.proofs.HeldPlaces.{places_most}
use Rattle.near.proofs.NearCranes.{near_sound}
use Rattle.near.proofs.Standing.{as_many_stands}
use Rattle.near.proofs.order.Laws.{precedes-told, within_few, within_in, in_within, within_ascend, nearest_below, nearest-first, nearest_heads}

-- ---- the cranes near a place

module _ (book : Book) (n : ℕ) (t : Table) (place distance : ℕ) (out : List ℕ) where
  -- d(s,r): the metres from the stand of crane s to the place
  abbrev metres : ℕ → ℕ
  metres = drive (metres_of t) (stands_of book) place

  abbrev drives : List ℕ
  drives = drives_of book t place

  abbrev list : List ℕ
  list = cranes_within drives distance

  -- what is told, and the crane numbers that were written
  abbrev answer : NearCranes
  answer = near_of book n t place distance out

  abbrev told : List ℕ
  told = cranes_told answer

  -- "A place outside the table gives 5, and then a short buffer 11": after the book's tests, a buffer shorter than the list
  abbrev number : ℕ
  number = book_refusal book n t then unless (ltb place n) 5 then unless (leb (length list) (length out)) 11

  numbers : (near_refusal book n t place then unless (leb (length list) (length out)) 11) ≡ number
  unfolding all_below
  numbers = then_assoc (book_refusal book n t) (unless (ltb place n) 5) _

  pub near_number : answer.list.number ≡ number
  unfolding near_of near_after
  near_number = output_number (near_refusal book n t place) _ out ∙ numbers

  -- refused: the number, zeros, and the buffer as it was given
  pub near_kept : (answer.list.number ≡ 0 → ⊥)
      → answer ≡ record { list = record { number = number; length = 0; buffer = out }; nearest = 0 }
  unfolding near_of near_after
  near_kept h =
      let refused = output_kept (near_refusal book n t place) list out h in
      let zero = zeros_told _ (nearest drives) (λ m. 0) h in
      rw (← zero, refused, numbers)

  drives_long : BookArrays book → Sound book n t → length drives ≡ book.cranes
  drives_long arrays sound = length-up_to (length (stands_of book)) metres ∙ sym (as_many_stands arrays sound)

  -- a buffer for all cranes is never short
  pub near_fits : BookArrays book → near_refusal book n t place ≡ 0 → book.cranes ≤ length out → answer.list.number ≡ 0
  unfolding near_of near_after
  near_fits arrays tests room =
      let few = within_few drives distance in
      let many = drives_long arrays (near_sound book n t place tests) in
      output_number (near_refusal book n t place) _ out ∙ rw (tests, le-leb (length list) (length out) (omega arith))

  module _ (accepted : answer.list.number ≡ 0) (arrays : BookArrays book) where
    tests : near_refusal book n t place ≡ 0
    unfolding near_of near_after
    tests = (output_accepted (near_refusal book n t place) _ out accepted).0

    sound : Sound book n t
    sound = near_sound book n t place tests

    listed : told ≡ list
    unfolding near_of near_after
    listed = output_bytes (near_refusal book n t place) _ out accepted

    many : length drives ≡ book.cranes
    many = drives_long arrays sound

    driven : (s : ℕ) → s < book.cranes → get_or drives s 0 ≡ metres s
    driven s lt = get_or-up_to (length (stands_of book)) metres s 0 (rw (← as_many_stands arrays sound) lt)

    -- of crane s and crane u the first is nearer, or as near with the lower number
    abbrev Before : ℕ → ℕ → Type 0
    Before s u = (metres s < metres u) ⊎ ((metres s ≡ metres u) × (s < u))

    before : (s u : ℕ) → s < book.cranes → u < book.cranes → precedes drives s u ≡ true → Before s u
    before s u hs hu p = rw (driven s hs, driven u hu) at (precedes-told drives s u p)

    -- "the cranes within a given distance of a place, the distance itself included": those that are, and no others
    pub near_within : (s : ℕ) → s < book.cranes → metres s ≤ distance → Memᴰ s told
    near_within s lt le = rw listed (within_in drives distance s (rw many lt) (rw (driven s lt) le))

    pub within_near : (s : ℕ) → Memᴰ s told → (s < book.cranes) × (metres s ≤ distance)
    within_near s m =
        let found = in_within drives distance s (rw listed at m) in
        let lt : s < book.cranes = rw many at found.0 in
        (lt, rw (driven s lt) at found.1)

    entry : (i : ℕ) → i < length told → get_or told i 0 < book.cranes
    entry i lt = (within_near (get_or told i 0) (entry_in told i lt)).0

    -- "ordered by metres and then by number"
    pub near_ascends : (i j : ℕ) → i < j → j < length told → Before (get_or told i 0) (get_or told j 0)
    near_ascends i j lt h =
        before _ _ (entry i (omega arith)) (entry j h) (rw listed (within_ascend drives distance i j lt (rw listed at h)))

    -- no crane is listed twice
    pub near_once : (i j : ℕ) → i < length told → j < length told → get_or told i 0 ≡ get_or told j 0 → i ≡ j
    near_once i j hi hj e = by_order i j
        (λ lt. absurd (apart _ _ e (near_ascends i j lt hj))) (λ same. same) (λ lt. absurd (apart _ _ (sym e) (near_ascends j i lt hi)))
      where
        apart : (s u : ℕ) → s ≡ u → Before s u → ⊥
        apart s u e b = ⊎_elim (λ (l : metres s < metres u). lt_irrefl (metres u) (rw e at l)) (λ (p : (metres s ≡ metres u) × (s < u)). let l = p.1 in lt_irrefl u (rw e at l)) b

    -- "written output past the result's length is unchanged"
    pub near_past : let r = answer.list in drop r.length r.buffer ≡ drop r.length out
    unfolding near_of near_after
    near_past = output_past (near_refusal book n t place) _ out accepted

    -- "the first in that order of all cranes, within the distance or not"
    nearest-told : answer.nearest ≡ nearest drives
    unfolding near_of near_after
    nearest-told = rw accepted

    pub nearest-crane : answer.nearest < book.cranes
    nearest-crane =
        subst (λ (k : ℕ). answer.nearest < k) many
        (rw nearest-told (nearest_below drives (rw many sound.counts.crane)))

    pub nearest_before : (s : ℕ) → s < book.cranes → (answer.nearest ≡ s → ⊥)
        → Before answer.nearest s
    nearest_before s lt ne =
        before _ _ nearest-crane lt (rw nearest-told (nearest-first drives s (rw many lt) (rw nearest-told at ne)))

    -- no crane is nearer
    pub nearest_least : (s : ℕ) → s < book.cranes → metres answer.nearest ≤ metres s
    nearest_least s lt = go (ℕ_discrete answer.nearest s)
      where
        go : Dec (answer.nearest ≡ s) → metres answer.nearest ≤ metres s
        go (yes e) = le_of_eq (ap metres e)
        go (no ne) = ⊎_elim le_of_lt (λ both. le_of_eq both.0) (nearest_before s lt ne)

    -- it heads the list, where a crane is listed
    pub nearest_listed : 0 < length told → get_or told 0 0 ≡ answer.nearest
    nearest_listed some = rw (listed, nearest-told) (nearest_heads drives distance (rw listed at some))

-- entries past the counts are ignored
pub same_near : (a b : Book) (n : ℕ) (t : Table) (place distance : ℕ) (out : List ℕ) → SameBook a b
    → near_of a n t place distance out ≡ near_of b n t place distance out
unfolding near_of near_after
same_near a b n t place distance out books = rw (past_counts_ignored a b n t books, books.stands)

-- ---- the places that hold a crane

-- a place holds a crane if and only if one stands there
pub stand_held : (book : Book) (s : ℕ) → s < length (stands_of book) → holds_crane book (get_or (stands_of book) s 0) ≡ true
stand_held book s lt = contains_yes (entry_in (stands_of book) s lt)

pub held_stand : (book : Book) (p : ℕ) → holds_crane book p ≡ true → (s : ℕ) × (s < length (stands_of book)) × (get_or (stands_of book) s 0 ≡ p)
held_stand book p h = slot_of (contains_in p (stands_of book) h)

module _ (book : Book) (n : ℕ) (t : Table) (accepted : (occupancy_of book n t).number ≡ 0) where
  tested : book_refusal book n t ≡ 0
  unfolding occupancy_of
  tested = accepted_values {A = HeldPlaces} (book_refusal book n t) _ (λ m. record { number = m; held = 0; free = 0 }) (λ r. r.number) (λ m. refl) accepted

  freed : (occupancy_of book n t).free ≡ first n (λ p. not (holds_crane book p))
  unfolding occupancy_of
  freed = rw tested

  -- "how many different places hold a crane": no more than cranes
  pub held_most : BookArrays book → (occupancy_of book n t).held ≤ book.cranes
  unfolding occupancy_of
  held_most arrays =
      subst (λ (k : ℕ). (occupancy_of book n t).held ≤ k) (sym (as_many_stands arrays (book_sound tested))) (rw tested (places_most n (stands_of book)))

  -- "the lowest place that holds none, or the number of places if all do"
  pub free_most : (occupancy_of book n t).free ≤ n
  free_most = rw freed (first_most n (λ p. not (holds_crane book p)))

  pub free_empty : (occupancy_of book n t).free < n → holds_crane book (occupancy_of book n t).free ≡ false
  free_empty lt = rw freed (not-true _ (first_passes n (λ p. not (holds_crane book p)) (rw freed at lt)))

  pub free_lowest : (p : ℕ) → p < (occupancy_of book n t).free → holds_crane book p ≡ true
  free_lowest p lt = not-false _ (first-lowest n (λ p. not (holds_crane book p)) p (rw freed at lt))

  pub all_held : ((p : ℕ) → p < n → holds_crane book p ≡ true) → (occupancy_of book n t).free ≡ n
  all_held all = freed ∙ first-none n (λ p. not (holds_crane book p)) (λ p lt. rw (all p lt))

-- entries past the counts are ignored
pub same_occupancy : (a b : Book) (n : ℕ) (t : Table) → SameBook a b → occupancy_of a n t ≡ occupancy_of b n t
unfolding occupancy_of
same_occupancy a b n t books =
    rw (past_counts_ignored a b n t books)
    (ap (λ (stands : List ℕ). unless_refused (book_refusal b n t)
    (record { number = 0; held = count n (λ p. contains p stands); free = first n (λ p. not (contains p stands)) })
    (λ m. record { number = m; held = 0; free = 0 })) books.stands)
