-- The number that a list of keys prefers: it comes no later than any other, by the keys in turn and then by itself, and no other
-- number does. Assumes nothing.
use Prim.Native.Nat.{ℕ, zero, suc, ◌+◌, ◌<◌, ◌≤◌}
use mathlib.Core.Bool.{Bool, true, false, cond}
use mathlib.Core.List.Memᴰ
use mathlib.Core.List.{List, [], ◌∷◌, head_d, Memᴰ}
use mathlib.Core.Logic.{◌⊎◌, inl, inr}
use mathlib.Core.Path.{◌≡◌, refl, sym, ◌∙◌}
use native.Mathlib.Decide.{dec_lt}
use native.Mathlib.Nat.{zero-add, le_antisymm, le_refl, le_trans, le_of_lt, le_of_eq}
use native.Mathlib.Omega.{arith}
use Rattle.base.specs.Lists.{up_to}
use Rattle.base.proofs.Tests.{by_order}
use Rattle.workfunction.specs.Lists.{filter, least_by}
use Rattle.workfunction.specs.Choice.{narrowed, preferred}
use Rattle.workfunction.proofs.Lists.{in_least_by, least_by_in, least_by_some, up_to_in, in_up_to}

-- a list in ascending order, from b on
data Ascends : ℕ → List ℕ → Type 0 where
  none : {b : ℕ} → Ascends b []
  next : {a b : ℕ} {l : List ℕ} → b ≤ a → Ascends (suc a) l → Ascends b (a ∷ l)

ascends_from : {b c : ℕ} {l : List ℕ} → c ≤ b → Ascends b l → Ascends c l
ascends_from h none = none
ascends_from h (next g more) = next (le_trans h g) more

ascends_filter : (P : ℕ → Bool) {b : ℕ} {l : List ℕ} → Ascends b l → Ascends b (filter P l)
unfolding filter
ascends_filter P none = none
ascends_filter P (next {a} {b} {l} h more) = go (P a) (ascends_filter P more)
  where
    go : (t : Bool) → Ascends (suc a) (filter P l) → Ascends b (cond t (a ∷ filter P l) (filter P l))
    go true rest = next h rest
    go false rest = ascends_from (omega arith) rest

ascends_up_to : (n b : ℕ) (f : ℕ → ℕ) → ((i : ℕ) → f i ≡ b + i) → Ascends b (up_to n f)
unfolding up_to
ascends_up_to zero b f e = none
ascends_up_to (suc n) b f e =
    let first = e 0 in
    let low : b ≤ f 0 = omega arith in
    let from : suc (f 0) ≤ suc b = omega arith in
    next low (ascends_from from (ascends_up_to n (suc b) (λ i. f (suc i)) (λ i. let at = e (suc i) in omega arith)))

-- the head of such a list is its lowest number
head_in : {a : ℕ} (l : List ℕ) → Memᴰ a l → Memᴰ (head_d l 0) l
unfolding head_d
head_in [] m = absurd (Memᴰ.not-nil m)
head_in (b ∷ l) m = Memᴰ.head refl

above : {a b : ℕ} {l : List ℕ} → Ascends b l → Memᴰ a l → b ≤ a
above {a = a} (none {b = b}) m = elim m [ ]
above (next h more) (Memᴰ.head e) = rw e h
above (next h more) (Memᴰ.tail m) = let rest = above more m in omega arith

head_lowest : {a b : ℕ} {l : List ℕ} → Ascends b l → Memᴰ a l → head_d l 0 ≤ a
unfolding head_d
head_lowest {a = a} {b = b} none m = elim m [ ]
head_lowest (next h more) (Memᴰ.head e) = rw e (le_refl _)
head_lowest (next h more) (Memᴰ.tail m) = let rest = above more m in omega arith

-- s comes no later than t
pub NoLater : List (ℕ → ℕ) → ℕ → ℕ → Type 0
NoLater [] s t = s ≤ t
NoLater (key ∷ keys) s t = (key s < key t) ⊎ ((key s ≡ key t) × NoLater keys s t)

-- by the number alone
module _ (s t : ℕ) where
  pub no_later_by_number : s ≤ t → NoLater [] s t
  unfolding NoLater
  no_later_by_number h = h

  pub no_later_number : NoLater [] s t → s ≤ t
  unfolding NoLater
  no_later_number h = h

-- by one key and then by others
module _ (key : ℕ → ℕ) (keys : List (ℕ → ℕ)) (s t : ℕ) where
  pub no_later_by : key s ≤ key t → (key s ≡ key t → NoLater keys s t) → NoLater (key ∷ keys) s t
  unfolding NoLater
  no_later_by low rest = by_order (key s) (key t) (λ less. inl less) (λ same. inr (same, rest same)) (λ more. absurd (omega arith))

  pub no_later_key : NoLater (key ∷ keys) s t → key s ≤ key t
  unfolding NoLater
  no_later_key (inl less) = le_of_lt less
  no_later_key (inr same) = le_of_eq same.0

  pub no_later_tied : NoLater (key ∷ keys) s t → key s ≡ key t → NoLater keys s t
  unfolding NoLater
  no_later_tied (inl less) e = absurd (omega arith)
  no_later_tied (inr same) e = same.1

no_later_self : (keys : List (ℕ → ℕ)) (s : ℕ) → NoLater keys s s
unfolding NoLater
no_later_self [] s = le_refl s
no_later_self (key ∷ keys) s = inr (refl, no_later_self keys s)

no_later_on : (keys : List (ℕ → ℕ)) (s t u : ℕ) → NoLater keys s t → NoLater keys t u → NoLater keys s u
unfolding NoLater
no_later_on [] s t u h g = le_trans h g
no_later_on (key ∷ keys) s t u (inl h) (inl g) = inl (omega arith)
no_later_on (key ∷ keys) s t u (inl h) (inr g) = let e = g.0 in inl (omega arith)
no_later_on (key ∷ keys) s t u (inr h) (inl g) = let e = h.0 in inl (omega arith)
no_later_on (key ∷ keys) s t u (inr h) (inr g) = inr (h.0 ∙ g.0, no_later_on keys s t u h.1 g.1)

no_later_only : (keys : List (ℕ → ℕ)) (s t : ℕ) → NoLater keys s t → NoLater keys t s → s ≡ t
unfolding NoLater
no_later_only [] s t h g = le_antisymm h g
no_later_only (key ∷ keys) s t (inl h) (inl g) = absurd (omega arith)
no_later_only (key ∷ keys) s t (inl h) (inr g) = let e = g.0 in absurd (omega arith)
no_later_only (key ∷ keys) s t (inr h) (inl g) = let e = h.0 in absurd (omega arith)
no_later_only (key ∷ keys) s t (inr h) (inr g) = no_later_only keys s t h.1 g.1

-- of a list in ascending order: the head of what the keys leave is in it, and comes no later than any other
first_in : (keys : List (ℕ → ℕ)) {a b : ℕ} {l : List ℕ} → Ascends b l → Memᴰ a l
    → Memᴰ (head_d (narrowed keys l) 0) l × ((t : ℕ) → Memᴰ t l → NoLater keys (head_d (narrowed keys l) 0) t)
unfolding narrowed NoLater least_by
first_in [] {l = l} up m = (head_in l m, λ t h. head_lowest up h)
first_in (key ∷ keys) {l = l} up m =
    let some = least_by_some key m in
    let rest = first_in keys (ascends_filter _ up) some.1 in
    let at = in_least_by key l rest.0 in
    (at.0, λ t h. pick t h (dec_lt _ (key t)) at.1 rest.1)
  where
    pick : {s : ℕ} (t : ℕ) → Memᴰ t l → Dec (key s < key t) → ((u : ℕ) → Memᴰ u l → key s ≤ key u)
        → ((u : ℕ) → Memᴰ u (least_by key l) → NoLater keys s u) → (key s < key t) ⊎ ((key s ≡ key t) × NoLater keys s t)
    pick t h (yes less) least more = inl less
    pick {s} t h (no n) least more =
        let le = least t h in
        let e : key s ≡ key t = omega arith in
        inr (e, more t (least_by_in key h (λ u g. rw (← e) (least u g))))

module _ (keys : List (ℕ → ℕ)) (k : ℕ) (some : 0 < k) where
  found : Memᴰ (preferred keys k) (up_to k (λ s. s)) × ((t : ℕ) → Memᴰ t (up_to k (λ s. s)) → NoLater keys (preferred keys k) t)
  unfolding preferred
  found = first_in keys (ascends_up_to k 0 (λ s. s) (λ i. sym (zero-add i))) (up_to_in k (λ s. s) 0 some)

  pub preferred_below : preferred keys k < k
  preferred_below = let at = in_up_to k (λ s. s) found.0 in rw at.2 at.1

  pub preferred-first : (t : ℕ) → t < k → NoLater keys (preferred keys k) t
  preferred-first t h = found.1 t (up_to_in k (λ s. s) t h)

  pub preferred_only : (s : ℕ) → s < k → ((t : ℕ) → t < k → NoLater keys s t) → s ≡ preferred keys k
  preferred_only s h first = no_later_only keys s (preferred keys k) (first (preferred keys k) preferred_below) (preferred-first s h)

-- the first key is least
pub preferred_least : (key : ℕ → ℕ) (keys : List (ℕ → ℕ)) (k : ℕ) → 0 < k → (t : ℕ) → t < k → key (preferred (key ∷ keys) k) ≤ key t
preferred_least key keys k some t h = no_later_key key keys (preferred (key ∷ keys) k) t (preferred-first (key ∷ keys) k some t h)

-- keys that differ from others by the same amount below k, each from its own
pub data Shifted (k : ℕ) : List (ℕ → ℕ) → List (ℕ → ℕ) → Type 0 where
  none : Shifted k [] []
  next : {key key' : ℕ → ℕ} {keys keys' : List (ℕ → ℕ)} (a b : ℕ) → ((t : ℕ) → t < k → key t + a ≡ key' t + b) → Shifted k keys keys'
      → Shifted k (key ∷ keys) (key' ∷ keys')

no_later_shifted : {k : ℕ} {keys keys' : List (ℕ → ℕ)} → Shifted k keys keys' → (s t : ℕ) → s < k → t < k → NoLater keys s t → NoLater keys' s t
unfolding NoLater
no_later_shifted none s t h g first = first
no_later_shifted (next a b same more) s t h g (inl less) = let mine = same s h in let other = same t g in inl (omega arith)
no_later_shifted (next a b same more) s t h g (inr alike) =
    let mine = same s h in
    let other = same t g in
    let e = alike.0 in
    inr (omega arith, no_later_shifted more s t h g alike.1)

-- they prefer the same number
pub preferred-same : {k : ℕ} {keys keys' : List (ℕ → ℕ)} → 0 < k → Shifted k keys keys' → preferred keys k ≡ preferred keys' k
preferred-same {k} {keys} {keys'} some shifted =
    let below = preferred_below keys k some in
    preferred_only keys' k some (preferred keys k) below
    (λ t h. no_later_shifted shifted (preferred keys k) t below h (preferred-first keys k some t h))
