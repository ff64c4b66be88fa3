-- The laws of lists by their indices, by which a loop that fills one goes on, and of a list written into another.
-- Assumes nothing.
use Prim.Native.Nat.{ℕ, zero, suc, ◌+◌, ◌-◌, ◌<◌, ◌≤◌, zero-le, suc-le-suc}
use mathlib.Core.List.{List, [], ◌∷◌, ◌++◌, map, append_assoc}
use mathlib.Core.Path.{◌≡◌, refl, sym, ap, subst, ◌∙◌}
use lib.ListN.{length, get_or, set, take, drop, replicate, length-replicate, length-set, length-append, length-drop, take-append-drop, get_or-append}
use lib.Seq.{set_at, set_split, drop-cons, take_at, drop_at, drop-drop, length-take-le, append_snoc, get_or-take, get_or-drop, get_or-append-add, ext_get_or}
use native.Mathlib.Nat.{add-zero, zero-add, suc-add, add_assoc, not-suc-le-zero, le_of_suc-le-suc, le_antisymm, sub-zero, zero-sub, suc-sub-suc}
use native.Mathlib.Numerals.{add-one}
use native.Mathlib.Omega.{arith}
use Rattle.base.specs.Lists.{up_to, padded, splice}

module _ {A : Type 0} where
  pub length-up_to : (n : ℕ) (f : ℕ → A) → length (up_to n f) ≡ n
  unfolding up_to
  length-up_to zero f = refl
  length-up_to (suc n) f = ap suc (length-up_to n (λ i. f (suc i)))

  pub get_or-up_to : (n : ℕ) (f : ℕ → A) (i : ℕ) (z : A) → i < n → get_or (up_to n f) i z ≡ f i
  unfolding up_to
  get_or-up_to zero f i z h = absurd (not-suc-le-zero h)
  get_or-up_to (suc n) f zero z h = refl
  get_or-up_to (suc n) f (suc i) z h = get_or-up_to n (λ j. f (suc j)) i z (le_of_suc-le-suc h)

  -- the entries behind a list whose length is known
  pub get_or_behind : (p q : List A) (n i : ℕ) (z : A) → length p ≡ n → get_or (p ++ q) (n + i) z ≡ get_or q i z
  get_or_behind p q n i z e = rw (← e) (get_or-append-add p q i z)

  -- rules that agree below n give the same list
  pub up_to-same : (n : ℕ) (f g : ℕ → A) → ((i : ℕ) → i < n → f i ≡ g i) → up_to n f ≡ up_to n g
  unfolding up_to
  up_to-same zero f g same = refl
  up_to-same (suc n) f g same = λ i. same 0 (suc-le-suc zero-le) i ∷ up_to-same n (λ j. f (suc j)) (λ j. g (suc j)) (λ j h. same (suc j) (suc-le-suc h)) i

  up_to-suc : (n : ℕ) (f : ℕ → A) → up_to (suc n) f ≡ up_to n f ++ (f n ∷ [])
  unfolding up_to
  up_to-suc zero f = refl
  up_to-suc (suc n) f = ap (λ (l : List A). f 0 ∷ l) (up_to-suc n (λ i. f (suc i)))

  pub up_to_more : (n : ℕ) (f : ℕ → A) → up_to (n + 1) f ≡ up_to n f ++ (f n ∷ [])
  up_to_more n f = rw add-one (up_to-suc n f)

  -- a list in two parts
  pub up_to-append : (n m : ℕ) (f : ℕ → A) → up_to (n + m) f ≡ up_to n f ++ up_to m (λ i. f (n + i))
  unfolding up_to
  up_to-append zero m f = rw zero-add (up_to-same m _ _ (λ i h. rw zero-add))
  up_to-append (suc n) m f = rw (suc-add n m) (ap (λ (l : List A). f 0 ∷ l) (up_to-append n m (λ i. f (suc i)) ∙ rw (up_to-same m _ _ (λ i h. ap f (sym (suc-add n i))))))

  -- a part of a list by its indices
  pub part_up_to : (n : ℕ) (l : List A) (i : ℕ) (z : A) → i + n ≤ length l → take n (drop i l) ≡ up_to n (λ j. get_or l (i + j) z)
  part_up_to n l i z h =
      let e : length (take n (drop i l)) ≡ n = length-take-le n (drop i l) (simp length-drop (omega arith)) in
      ext_get_or z (take n (drop i l)) (up_to n (λ j. get_or l (i + j) z)) (e ∙ sym (length-up_to n _))
      (λ j lt. let p : j < n = omega arith in get_or-take n (drop i l) j z p ∙ get_or-drop i l j z ∙ sym (get_or-up_to n _ j z p))

  pub take-up_to : (n : ℕ) (l : List A) (z : A) → n ≤ length l → take n l ≡ up_to n (λ j. get_or l j z)
  take-up_to n l z h =
      part_up_to n l 0 z (rw zero-add h) ∙ up_to-same n _ _ (λ j lt. rw zero-add)

  -- the entries of a list that begins by a rule
  pub get_or-front : (n : ℕ) (f : ℕ → A) (rest : List A) (y : A) (i : ℕ) → i < n → get_or (up_to n f ++ rest) i y ≡ f i
  get_or-front n f rest y i h = get_or-append (up_to n f) rest y i (rw length-up_to h) ∙ get_or-up_to n f i y h

  -- the entries of an array within its count
  pub get_or-padded : (m n : ℕ) (f : ℕ → A) (z y : A) (i : ℕ) → i < n → get_or (padded m n f z) i y ≡ f i
  get_or-padded m n f z y i h = get_or-front n f _ y i h

  pub take-padded : (m n : ℕ) (f : ℕ → A) (z : A) → take n (padded m n f z) ≡ up_to n f
  take-padded m n f z = take_at (up_to n f) _ n (length-up_to n f)

  pub length-padded : (m n : ℕ) (f : ℕ → A) (z : A) → n ≤ m → length (padded m n f z) ≡ m
  length-padded m n f z h = simp (length-append, length-up_to, length-replicate) (omega arith)

  -- arrays of one count whose entries within it agree are the same
  pub padded-same : (m : ℕ) {k n : ℕ} (f g : ℕ → A) (z : A) → k ≡ n → ((i : ℕ) → i < n → f i ≡ g i) → padded m k f z ≡ padded m n g z
  padded-same m {n = n} f g z e same = rw (e, up_to-same n f g same)

  pub kept_same : (m : ℕ) {k n : ℕ} (l o : List A) (z : A) → k ≡ n → take k l ≡ take n o
      → padded m k (λ j. get_or l j z) z ≡ padded m n (λ j. get_or o j z) z
  kept_same m {k} {n} l o z e same =
      padded-same m _ _ z e (λ i h. sym (get_or-take k l i z (rw e h)) ∙ ap (λ (t : List A). get_or t i z) same ∙ get_or-take n o i z h)

  pub replicate-at : (n i : ℕ) (z : A) → get_or (replicate n z) i z ≡ z
  replicate-at zero i z = refl
  replicate-at (suc n) zero z = refl
  replicate-at (suc n) (suc i) z = replicate-at n i z

  -- and past it
  pub get_or-padded_past : (m n : ℕ) (f : ℕ → A) (z : A) (i : ℕ) → n ≤ i → get_or (padded m n f z) i z ≡ z
  get_or-padded_past m n f z i h =
      let on : i ≡ length (up_to n f) + (i - n) = rw (length-up_to n f) (omega arith) in
      ap (λ (j : ℕ). get_or (padded m n f z) j z) on ∙ get_or-append-add (up_to n f) _ (i - n) z ∙ replicate-at (m - n) (i - n) z

  -- an array keeps the entries within its count
  pub take_kept : (m n : ℕ) (l : List A) (z : A) → n ≤ length l → take n (padded m n (λ j. get_or l j z) z) ≡ take n l
  take_kept m n l z h = take-padded m n _ z ∙ sym (take-up_to n l z h)

  -- a list's elements, each by a rule, are the rule at each index
  pub map_by_index : {B : Type 0} (g : B → A) (l : List B) (z : B) → map g l ≡ up_to (length l) (λ i. g (get_or l i z))
  unfolding up_to
  map_by_index g [] z = refl
  map_by_index g (b ∷ l) z = ap (λ (m : List A). g b ∷ m) (map_by_index g l z)

  pub drop-replicate : (n m : ℕ) (z : A) → drop n (replicate m z) ≡ replicate (m - n) z
  drop-replicate zero m z = rw sub-zero
  drop-replicate (suc n) zero z = rw zero-sub
  drop-replicate (suc n) (suc m) z = rw suc-sub-suc (drop-replicate n m z)

  length-take-replicate : (m n : ℕ) (z : A) → n ≤ m → length (take n (replicate m z)) ≡ n
  length-take-replicate m n z h = length-take-le n (replicate m z) (rw length-replicate h)

  -- an array of m entries z whose first n were filled by f
  pub padded_by : (m n : ℕ) (f : ℕ → A) (z : A) (front : List A) → n ≤ m → front ≡ up_to (length (take n (replicate m z))) f
      → front ++ drop n (replicate m z) ≡ padded m n f z
  padded_by m n f z front h e = rw (e, length-take-replicate m n z h, drop-replicate n m z)

pub map-up_to : {A B : Type 0} (g : A → B) (n : ℕ) (f : ℕ → A) → map g (up_to n f) ≡ up_to n (λ i. g (f i))
unfolding up_to
map-up_to g zero f = refl
map-up_to g (suc n) f = ap (λ l. g (f 0) ∷ l) (map-up_to g n (λ i. f (suc i)))

-- the invariant of a loop that fills a list up to n from the front: the first i entries are by f, the rest as they were
pub record Filled {A : Type 0} (f : ℕ → A) (old : List A) (n : ℕ) (now : List A) (i : ℕ) : Type 0 where
  pub most : i ≤ n
  pub long : length now ≡ length old
  pub same : now ≡ up_to i f ++ drop i old

module _ {A : Type 0} (f : ℕ → A) where
  module _ (old : List A) (n : ℕ) where
    pub fill_begun : Filled f old n old 0
    unfolding up_to
    fill_begun = record { most = zero-le; long = refl; same = refl }

    pub fill_turned : (now : List A) (i : ℕ) (a : A) → n ≤ length old → Filled f old n now i → i < n → a ≡ f i
        → Filled f old n (set now i a) (i + 1)
    fill_turned now i a fits p lt e =
        let h : i < length old = omega arith in
        record {
          most = omega arith;
          long = simp length-set p.long;
          same =
              rw (p.same, e, drop-cons old i (f i) h, set_at (up_to i f) (get_or old i (f i)) (drop (suc i) old) (f i) i (length-up_to i f), up_to_more i f, add-one i)
              (sym (append_snoc (up_to i f) (f i) (drop (suc i) old)));
        }

    pub fill_ended : (now : List A) (i : ℕ) → Filled f old n now i → n ≤ i → now ≡ up_to n f ++ drop n old
    fill_ended now i p le = subst (λ (k : ℕ). now ≡ up_to k f ++ drop k old) (le_antisymm p.most le) p.same

  -- the entries filled so far
  pub filled_at : {old : List A} {n : ℕ} {now : List A} {i : ℕ} → Filled f old n now i → (z : A) (v : ℕ) → v < i → get_or now v z ≡ f v
  filled_at {old} {i = i} p z v lt = rw (p.same, get_or-append (up_to i f) (drop i old) z v (rw length-up_to lt)) (get_or-up_to i f v z lt)

  -- and those still to be filled
  pub filled_ahead : {old : List A} {n : ℕ} {now : List A} {i : ℕ} → Filled f old n now i → (z : A) (v : ℕ) → i ≤ v → get_or now v z ≡ get_or old v z
  filled_ahead {old} {i = i} p z v le =
      let e : v ≡ length (up_to i f) + (v - i) = omega (arith, length-up_to i f) in
      let g : i + (v - i) ≡ v = omega arith in
      rw p.same (ap (λ (k : ℕ). get_or (up_to i f ++ drop i old) k z) e ∙ get_or-append-add (up_to i f) (drop i old) (v - i) z ∙ get_or-drop i old (v - i) z
      ∙ ap (λ (k : ℕ). get_or old k z) g)

  -- an array of m entries, all z at first
  pub fill_padded : (m n : ℕ) (z : A) (now : List A) (i : ℕ) → Filled f (replicate m z) n now i → n ≤ i → now ≡ padded m n f z
  fill_padded m n z now i p le = fill_ended (replicate m z) n now i p le ∙ rw drop-replicate

-- old with nothing written into it
pub splice-none : (at : ℕ) (old : List ℕ) → at ≤ length old → old ≡ splice at [] old
unfolding splice
splice-none at old h = sym (rw add-zero (take-append-drop at old))

pub length-splice : (at : ℕ) (new old : List ℕ) → at + length new ≤ length old → length (splice at new old) ≡ length old
unfolding splice
length-splice at new old h =
    let p : at ≤ length old = omega arith in
    simp (length-append, length-take-le at old p, length-drop) (omega arith)

-- one list written behind another is both written as one
pub splice_on : (at : ℕ) (a b old : List ℕ) → at + (length a + length b) ≤ length old
    → splice (at + length a) b (splice at a old) ≡ splice at (a ++ b) old
unfolding splice
splice_on at a b old h =
    let p : at ≤ length old = omega arith in
    let front : List ℕ = take at old ++ a in
    let rest : List ℕ = drop (at + length a) old in
    let e : length front ≡ at + length a = simp (length-append, length-take-le at old p) in
    let far : drop (at + length a + length b) (front ++ rest) ≡ drop (at + length a + length b) old =
    sym (drop-drop (length b) (at + length a) (front ++ rest)) ∙ ap (drop (length b)) (drop_at front rest (at + length a) e) ∙ drop-drop (length b) (at + length a) old
    in
    rw (← append_assoc (take at old) a rest, take_at front rest (at + length a) e, far, length-append a b, ← add_assoc at (length a) (length b))
    (append_assoc (take at old) a _ ∙ ap (λ (l : List ℕ). take at old ++ l) (sym (append_assoc a b _)))

-- the invariant of a loop that writes bytes one behind another from index at: after i turns of n those of text i
pub record Spliced (text : ℕ → List ℕ) (at : ℕ) (old : List ℕ) (n : ℕ) (now : List ℕ) (i : ℕ) : Type 0 where
  pub most : i ≤ n
  pub long : length now ≡ length old
  pub same : now ≡ splice at (text i) old

module _ (text : ℕ → List ℕ) (at : ℕ) (old : List ℕ) (n : ℕ) where
  pub splice_begun : text 0 ≡ [] → at ≤ length old → Spliced text at old n old 0
  splice_begun e h = record { most = zero-le; long = refl; same = rw e (splice-none at old h) }

  -- a turn writes more
  pub splice_turned : (now new more : List ℕ) (i : ℕ) → text (i + 1) ≡ text i ++ more → at + length (text (i + 1)) ≤ length old
      → Spliced text at old n now i → i < n → new ≡ splice (at + length (text i)) more now → Spliced text at old n new (i + 1)
  splice_turned now new more i on fits p lt e =
      let room : at + (length (text i) + length more) ≤ length old = rw (on, length-append) at fits in
      let q : new ≡ splice at (text (i + 1)) old = e ∙ rw (p.same, on) (splice_on at (text i) more old room) in
      record { most = omega arith; long = ap length q ∙ length-splice at (text (i + 1)) old fits; same = q }

  pub splice_ended : (now : List ℕ) (i : ℕ) → Spliced text at old n now i → n ≤ i → now ≡ splice at (text n) old
  splice_ended now i p le = subst (λ (k : ℕ). now ≡ splice at (text k) old) (le_antisymm p.most le) p.same

-- an entry written
splice-one : (at a : ℕ) (old : List ℕ) → at < length old → set old at a ≡ splice at (a ∷ []) old
unfolding splice
splice-one at a old h = set_split old at a h ∙ rw add-one

-- the entries of a rule, one by each turn
module _ (f : ℕ → ℕ) (at : ℕ) (old : List ℕ) (n : ℕ) (fits : at + n ≤ length old) where
  pub entries_begun : Spliced (λ i. up_to i f) at old n old 0
  unfolding up_to
  entries_begun = splice_begun (λ i. up_to i f) at old n refl (omega arith)

  pub entries_turned : (now : List ℕ) (i a : ℕ) → Spliced (λ i. up_to i f) at old n now i → i < n → a ≡ f i
      → Spliced (λ i. up_to i f) at old n (set now (at + i) a) (i + 1)
  entries_turned now i a p lt e =
      splice_turned (λ i. up_to i f) at old n now _ (f i ∷ []) i (up_to_more i f) (rw length-up_to (omega arith)) p lt
      (rw (length-up_to i f, ← e) (splice-one (at + i) a now (omega (arith, p.long))))

-- a list copied into the part of another from index at that is as long
pub copied : (part old new : List ℕ) (at : ℕ) → new ≡ part → take at old ++ (new ++ drop (at + length part - at) (drop at old)) ≡ splice at part old
unfolding splice
copied part old new at e =
    let long : at + length part - at ≡ length part = omega arith in
    rw (e, long, drop-drop (length part) at old)
