-- The stops of an instance by their numbers: their places, the calls from some number on, and sums over them. Along a
-- movement each crane has a tag, the stop it served last: k tags below i are a `Position i k`. Assumes nothing.
use Prim.Native.Nat.{ℕ, suc, ◌+◌, ◌-◌, ◌<◌, ◌≤◌}
use mathlib.Core.List.Memᴰ
use mathlib.Core.List.{List, [], ◌∷◌, ◌++◌, map, append_assoc, Permᴰ}
use mathlib.Core.Logic.{⊎_elim}
use mathlib.Core.Path.{◌≡◌, refl, sym, ap, subst, ◌∙◌}
use lib.ListN.{length, get_or, set, length-append, length-set, length-map, get_or-append}
use lib.Seq.{get_or-append_seam, get_or-append-add, append_snoc, take-append_seam, set-append_left, get_or-set_same, get_or-set_other}
use native.Mathlib.Nat.{add-zero, zero-add, add_assoc, le_refl, le_trans}
use native.Mathlib.Numerals.{add-one}
use native.Mathlib.Omega.{arith}
use Rattle.base.specs.Lists.{up_to}
use Rattle.base.specs.Metric.{Metric}
use Rattle.base.proofs.Lists.{length-up_to, map-up_to, take-up_to}
use Rattle.workfunction.specs.Lists.{sum_below}
use Rattle.workfunction.specs.Position.{Position, pairing, distance}
use Rattle.workfunction.specs.Movement.{Instance}
use Rattle.workfunction.specs.Choice.{moved}
use Rattle.workfunction.specs.Plan.{stops, place}
use Rattle.workfunction.proofs.Lists.{in_up_to}
use Rattle.workfunction.proofs.Position.{position_set, stepped, together}
use Rattle.workfunction.proofs.Sums.{total, total_up_to, entry_in}

-- ---- the calls that are left

-- the places of the stops from i on are these
pub data Run (stop : ℕ → ℕ) : ℕ → List ℕ → Type 0 where
  over : {i : ℕ} → Run stop i []
  then : {i r : ℕ} {rs : List ℕ} → stop i ≡ r → Run stop (suc i) rs → Run stop i (r ∷ rs)

pub run_calls : (first calls : List ℕ) → Run (place first calls) (length first) calls
unfolding place
run_calls first [] = over
run_calls first (r ∷ calls) =
    let more = run_calls (first ++ (r ∷ [])) calls in
    let last : length (first ++ (r ∷ [])) ≡ suc (length first) = length-append first (r ∷ []) ∙ add-one (length first) in
    then (get_or-append_seam first r calls 0)
    (subst (λ l. Run (λ p. get_or l p 0) (suc (length first)) calls) (append_snoc first r calls)
    (subst (λ i. Run (λ p. get_or ((first ++ (r ∷ [])) ++ calls) p 0) i calls) last more))

-- the sum of f over as many numbers from i on as the list has elements
unfoldable pub left : (ℕ → ℕ) → ℕ → List ℕ → ℕ
left f i [] = 0
left f i (r ∷ rs) = f i + left f (suc i) rs

pub sum_left : (f : ℕ → ℕ) (i : ℕ) (rs : List ℕ) → sum_below i f + left f i rs ≡ sum_below (i + length rs) f
unfolding left sum_below
sum_left f i [] = rw (add-zero i) (add-zero (sum_below i f))
sum_left f i (r ∷ rs) =
    let up : suc i + length rs ≡ i + suc (length rs) = omega arith in
    sym (add_assoc (sum_below i f) (f i) (left f (suc i) rs)) ∙ sum_left f (suc i) rs ∙ ap (λ (m : ℕ). sum_below m f) up

pub left_all : (f : ℕ → ℕ) (rs : List ℕ) → left f 0 rs ≡ sum_below (length rs) f
unfolding sum_below
left_all f rs = sym (zero-add (left f 0 rs)) ∙ sum_left f 0 rs ∙ ap (λ (m : ℕ). sum_below m f) (zero-add (length rs))

pub left_none : (g : ℕ → ℕ) (i : ℕ) (rs : List ℕ) → ((p : ℕ) → i ≤ p → p < i + length rs → g p ≡ 0) → left g i rs ≡ 0
unfolding left
left_none g i [] none = refl
left_none g i (r ∷ rs) none =
    rw (none i (le_refl i) (omega arith), left_none g (suc i) rs (λ p low high. none p (omega arith) (omega arith)))

pub left_same : (f g : ℕ → ℕ) (i : ℕ) (rs : List ℕ) → ((p : ℕ) → i ≤ p → f p ≡ g p) → left f i rs ≡ left g i rs
unfolding left
left_same f g i [] same = refl
left_same f g i (r ∷ rs) same = rw (same i (le_refl i), left_same f g (suc i) rs (λ p h. same p (omega arith)))

-- ---- tags

pub tags_within : {i N k : ℕ} {T : List ℕ} → i ≤ N → Position i k T → Position N k T
tags_within h t = record { cranes = t.cranes; placed = λ m. le_trans (t.placed m) h }

-- a crane has served stop i
pub tags_set : {i k : ℕ} (T : List ℕ) (j : ℕ) → Position i k T → Position (suc i) k (set T j i)
tags_set {i} T j t = position_set T j i (le_refl (suc i)) (tags_within (omega arith) t)

-- where the cranes were at those stops
pub tags_places : {n N k : ℕ} (stop : ℕ → ℕ) → ((p : ℕ) → p < N → stop p < n) → {T : List ℕ} → Position N k T → Position n k (map stop T)
tags_places {n} stop on {T} t =
    record {
      cranes = length-map T stop ∙ t.cranes;
      placed = λ m. let at = Memᴰ.of_map stop T m in subst (λ (p : ℕ). p < n) at.2 (on at.0 (t.placed at.1));
    }

-- the tags taken along to the next position
pub along : {n N k : ℕ} {d : ℕ → ℕ → ℕ} → Metric n d → (stop : ℕ → ℕ) → ((p : ℕ) → p < N → stop p < n) → (T P Q : List ℕ) → Position N k T
    → Position n k P → Position n k Q
    → (U : List ℕ) × Permᴰ T U × (pairing (λ t p. d (stop t) p) U Q ≤ pairing (λ t p. d (stop t) p) T P + distance d P Q)
along {d = d} laws stop on T P Q tags at to =
    stepped d (λ t p. d (stop t) p) T P Q (together tags at) (together at to)
    (λ t p q m l r. laws.triangle (stop t) p q (on t (tags.placed m)) (at.placed l) (to.placed r))

-- at first each crane is at its start
unfoldable pub first_tags : ℕ → List ℕ
first_tags k = up_to k (λ p. p)

pub first_tags_lem : (k : ℕ) → Position k k (first_tags k)
unfolding first_tags
first_tags_lem k =
    record { cranes = length-up_to k (λ p. p); placed = λ m. let at = in_up_to k (λ p. p) m in subst (λ (p : ℕ). p < k) (sym at.2) at.1 }

module _ (starts calls : List ℕ) where
  pub first_places : map (place starts calls) (first_tags (length starts)) ≡ starts
  unfolding place first_tags
  first_places =
      map-up_to (place starts calls) (length starts) (λ p. p)
      ∙ sym (take-up_to (length starts) (starts ++ calls) 0 (rw (length-append starts calls) (omega arith)))
      ∙ take-append_seam starts calls

  -- a sum over the starts and over the calls is the sum over all stops
  pub all_stops : (g : ℕ → ℕ) → total g (first_tags (length starts)) + left g (length starts) calls ≡ sum_below (stops starts calls) g
  unfolding first_tags
  all_stops g = rw (total_up_to g (length starts) (λ p. p)) (sum_left g (length starts) calls)

-- ---- places

-- every stop is at a place of the table
pub stop_placed : {n : ℕ} {starts calls : List ℕ} → Instance n starts calls → (p : ℕ) → p < stops starts calls → place starts calls p < n
unfolding place
stop_placed {starts = starts} {calls} day p h =
    ⊎_elim (λ m. day.started.placed m) (λ m. day.called m)
    (Memᴰ.append_cases starts (entry_in (starts ++ calls) p (rw (length-append starts calls) h)))

-- and so does every follower
pub follower_placed : {n : ℕ} {starts calls stands : List ℕ} → Instance n starts calls → Position n (length starts) stands
    → (b : ℕ) → b < stops starts calls → place stands calls b < n
follower_placed {n} {stands = stands} day standing b h =
    let ends : Position n (length stands) stands = record { cranes = refl; placed = standing.placed } in
    stop_placed (record { crane = rw standing.cranes day.crane; started = ends; called = day.called }) b (rw standing.cranes h)

-- the number of stops with one call more
pub stops_more : (starts calls : List ℕ) (r : ℕ) → stops starts calls + 1 ≡ stops starts (calls ++ (r ∷ []))
stops_more starts calls r = rw (length-append calls (r ∷ [])) (omega arith)

-- a call has the same place as a stop and as a follower; a stand has its own
pub place-call : (starts stands calls : List ℕ) (b : ℕ) → length stands ≡ length starts → length starts ≤ b
    → place stands calls b ≡ place starts calls b
unfolding place
place-call starts stands calls b same low =
    let m = b - length starts in
    let e : b ≡ length starts + m = omega arith in
    let g : b ≡ length stands + m = omega arith in
    ap (λ (i : ℕ). get_or (stands ++ calls) i 0) g ∙ get_or-append-add stands calls m 0
    ∙ sym (get_or-append-add starts calls m 0) ∙ ap (λ (i : ℕ). get_or (starts ++ calls) i 0) (sym e)

pub place_stand : (stands calls : List ℕ) (e : ℕ) → e < length stands → place stands calls e ≡ get_or stands e 0
unfolding place
place_stand stands calls e lt = get_or-append stands calls 0 e lt

-- with one call more: its own place, and those before
pub place_last : (first calls : List ℕ) (r : ℕ) → place first (calls ++ (r ∷ [])) (stops first calls) ≡ r
unfolding place
place_last first calls r = get_or-append-add first (calls ++ (r ∷ [])) (length calls) 0 ∙ get_or-append_seam calls r [] 0

pub place_early : (first calls : List ℕ) (r p : ℕ) → p < stops first calls → place first (calls ++ (r ∷ [])) p ≡ place first calls p
unfolding place
place_early first calls r p h =
    rw (← append_assoc first calls (r ∷ [])) (get_or-append (first ++ calls) (r ∷ []) 0 p (rw (length-append first calls) h))

-- with crane s at r
pub place-crane : (stands calls : List ℕ) (r s : ℕ) → s < length stands → place (moved stands r s) calls s ≡ r
place-crane stands calls r s h =
    place_stand (set stands s r) calls s (rw (length-set stands s r) h) ∙ get_or-set_same stands s r 0 h

pub place_others : (stands calls : List ℕ) (r s b : ℕ) → s < length stands → (b ≡ s → ⊥) → place (moved stands r s) calls b ≡ place stands calls b
unfolding place
place_others stands calls r s b h away = rw (← set-append_left stands calls s r h) (get_or-set_other (stands ++ calls) s b r 0 away)
