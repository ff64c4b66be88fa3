-- The work function: the least cost of all movements to an end, the same for every order of the end, and no more at another end
-- than at one plus the distance between them. The floor is its value at the starts. Assumes nothing.
use Prim.Native.Nat.{ℕ, zero, suc, ◌+◌, ◌<◌, ◌≤◌}
use mathlib.Core.Bool.{Bool, true, false, ◌||◌, or-true, false≢true}
use mathlib.Core.List.Permᴰ
use mathlib.Core.List.{List, [], ◌∷◌, ◌++◌, map, Permᴰ, Forall₂}
use mathlib.Core.List.Memᴰ
use mathlib.Core.List.{Memᴰ}
use mathlib.Core.Logic.{⊎_elim}
use mathlib.Core.Path.{◌≡◌, refl, sym, subst, ◌∙◌}
use borrow.Author.Tests.{eqb-true, eq-eqb}
use lib.Dec.{eqb}
use lib.ListN.{length, take, drop, replicate, length-replicate, take-append-drop}
use native.Mathlib.Nat.{not-suc-le-zero, le_antisymm, le_trans}
use native.Mathlib.Omega.{arith}
use Rattle.base.specs.Metric.{Metric}
use Rattle.workfunction.specs.Lists.{minimum, filter, sections}
use Rattle.workfunction.specs.Position.{Position, positions, distance}
use Rattle.workfunction.specs.Movement.{Instance, Serves, Movement, contains, movements, cost, LeastTo, work, floor}
use Rattle.workfunction.proofs.Lists.{minimum_least, filter_in, in_filter, sections_in, in_sections}
use Rattle.workfunction.proofs.Position.{distance_right, distance_self, distance_triangle, positions_in, in_positions}

pub contains_yes : {r : ℕ} {C : List ℕ} → Memᴰ r C → contains r C ≡ true
unfolding contains
contains_yes {r} (Memᴰ.head {x} e) = rw (eq-eqb r x e)
contains_yes {r} (Memᴰ.tail {x} m) = rw (contains_yes m) (or-true (eqb r x))

pub contains_in : (r : ℕ) (C : List ℕ) → contains r C ≡ true → Memᴰ r C
unfolding contains
contains_in r [] h = absurd (false≢true h)
contains_in r (p ∷ C) h = go (eqb r p) refl h (contains_in r C)
  where
    go : (b : Bool) → eqb r p ≡ b → (b || contains r C) ≡ true → (contains r C ≡ true → Memᴰ r C) → Memᴰ r (p ∷ C)
    go true e h more = Memᴰ.head (eqb-true r p e)
    go false e h more = Memᴰ.tail (more h)

-- movements has just the movements
movements_in : (n k : ℕ) {calls : List ℕ} {M : List (List ℕ)} → Movement n k calls M → Memᴰ M (movements n k calls)
unfolding movements
movements_in n k m = sections_in (rows m)
  where
    rows : {calls : List ℕ} {M : List (List ℕ)} → Movement n k calls M
        → Forall₂ (λ P (l : List (List ℕ)). Memᴰ P l) M (map (λ r. filter (contains r) (positions n k)) calls)
    rows Forall₂.nil = Forall₂.nil
    rows (Forall₂.cons {a = r} h more) = Forall₂.cons (filter_in (contains r) (contains_yes h.1) (positions_in n h.0)) (rows more)

pub in_movements : (n k : ℕ) (calls : List ℕ) {M : List (List ℕ)} → Memᴰ M (movements n k calls) → Movement n k calls M
unfolding movements
in_movements n k calls m = rows calls (in_sections (map (λ r. filter (contains r) (positions n k)) calls) m)
  where
    rows : (calls : List ℕ) {M : List (List ℕ)}
        → Forall₂ (λ P (l : List (List ℕ)). Memᴰ P l) M (map (λ r. filter (contains r) (positions n k)) calls) → Movement n k calls M
    rows [] Forall₂.nil = Forall₂.nil
    rows (r ∷ calls) (Forall₂.cons h more) =
        let out = in_filter (contains r) (positions n k) h in
        Forall₂.cons (in_positions n k out.0, contains_in r _ out.1) (rows calls more)

-- the cost with the end in another order, and with a way on to another end
cost_order : (d : ℕ → ℕ → ℕ) (A : List ℕ) (M : List (List ℕ)) (C X : List ℕ) → Permᴰ C X → cost d A M C ≡ cost d A M X
unfolding cost
cost_order d A [] C X p = distance_right d A C X p
cost_order d A (P ∷ M) C X p = rw (cost_order d P M C X p)

cost_on : {n k : ℕ} {d : ℕ → ℕ → ℕ} {calls A C X : List ℕ} {M : List (List ℕ)} → Metric n d → Position n k A → Position n k C
    → Position n k X → Movement n k calls M → cost d A M X ≤ cost d A M C + distance d C X
unfolding cost
cost_on laws a c x Forall₂.nil = distance_triangle laws a c x
cost_on laws a c x (Forall₂.cons h more) = let rest = cost_on laws h.0 c x more in omega arith

-- where there is a crane there is a movement: all cranes go to each call
in_replicate : (k r : ℕ) {p : ℕ} → Memᴰ p (replicate k r) → p ≡ r
in_replicate zero r m = absurd (Memᴰ.not-nil m)
in_replicate (suc k) r m = ⊎_elim (λ e. e) (in_replicate k r) (Memᴰ.cases_cons m)

all_at : (n k r : ℕ) → r < n → Position n k (replicate k r)
all_at n k r lt = record { cranes = length-replicate k r; placed = λ m. subst (λ (p : ℕ). p < n) (sym (in_replicate k r m)) lt }

some_movement : (n k : ℕ) (calls : List ℕ) → 0 < k → ((r : ℕ) → Memᴰ r calls → r < n) → (M : List (List ℕ)) × Movement n k calls M
some_movement n zero calls crane on = absurd (not-suc-le-zero crane)
some_movement n (suc k) [] crane on = ([], Forall₂.nil)
some_movement n (suc k) (r ∷ calls) crane on =
    let rest = some_movement n (suc k) calls crane (λ q m. on q (Memᴰ.tail m)) in
    let here = all_at n (suc k) r (on r (Memᴰ.head refl)) in
    (replicate (suc k) r ∷ rest.0, Forall₂.cons (here, Memᴰ.head refl) rest.1)

module _ (d : ℕ → ℕ → ℕ) {n : ℕ} {starts calls : List ℕ} (day : Instance n starts calls) where
  -- w(C) is the least cost of all movements that end at C
  pub work_least : (C : List ℕ) → LeastTo d n starts calls C (work d n starts calls C)
  unfolding work
  work_least C =
      let some = some_movement n (length starts) calls day.crane (λ r m. day.called m) in
      let least = minimum_least (λ M. cost d starts M C) (movements n (length starts) calls) (movements_in n (length starts) some.1) in
      let best = least.attained in
      record {
        attained = (best.0, in_movements n (length starts) calls best.1, best.2);
        below = λ M m. least.below M (movements_in n (length starts) m);
      }

  -- w is the same for every order of C
  order_below : (C X : List ℕ) → Permᴰ C X → work d n starts calls X ≤ work d n starts calls C
  order_below C X p =
      let best = (work_least C).attained in
      rw (← best.2, cost_order d starts best.0 C X p) ((work_least X).below best.0 best.1)

  pub work_order : (C X : List ℕ) → Permᴰ C X → work d n starts calls C ≡ work d n starts calls X
  work_order C X p = le_antisymm (order_below X C (Permᴰ.symm p)) (order_below C X p)

  -- w at another end is no more than at this one plus the way there
  pub work_on : Metric n d → {C X : List ℕ} → Position n (length starts) C → Position n (length starts) X
      → work d n starts calls X ≤ work d n starts calls C + distance d C X
  work_on laws {C} {X} c x =
      let best = (work_least C).attained in
      rw (← best.2) (le_trans ((work_least X).below best.0 best.1) (cost_on laws day.started c x best.1))

  -- the floor is the least cost of all movements that end at the starts
  pub floor_least : LeastTo d n starts calls starts (floor d n starts calls)
  unfolding floor
  floor_least = work_least starts

  -- and no more than w at an end plus the way from there to the starts
  pub floor_on : Metric n d → {C : List ℕ} → Position n (length starts) C
      → floor d n starts calls ≤ work d n starts calls C + distance d C starts
  unfolding floor
  floor_on laws c = work_on laws c day.started

-- ---- no calls

-- w is the distance from the starts, and the floor is 0
pub work_none : (d : ℕ → ℕ → ℕ) (n : ℕ) (starts C : List ℕ) → work d n starts [] C ≡ distance d starts C
unfolding work movements sections minimum cost
work_none d n starts C = refl

pub floor-none : {n : ℕ} {d : ℕ → ℕ → ℕ} {starts : List ℕ} → Metric n d → Instance n starts [] → floor d n starts [] ≡ 0
unfolding floor
floor-none {n} {d} {starts} laws day = work_none d n starts starts ∙ distance_self laws day.started

-- ---- one call more

pub instance_then : {n : ℕ} {starts calls : List ℕ} {r : ℕ} → Instance n starts calls → r < n → Instance n starts (calls ++ (r ∷ []))
instance_then {n} {calls = calls} day h =
    record {
      crane = day.crane;
      started = day.started;
      called = λ m.
          ⊎_elim (λ k. day.called k) (λ k. subst (λ (q : ℕ). q < n) (sym (Memᴰ.eq_of_singleton k)) h)
          (Memᴰ.append_cases calls m);
    }

-- and with the first calls alone
pub instance_first : {n : ℕ} {starts calls : List ℕ} (i : ℕ) → Instance n starts calls → Instance n starts (take i calls)
instance_first {calls = calls} i day =
    record {
      crane = day.crane;
      started = day.started;
      called = λ {r} m. day.called (subst (Memᴰ r) (take-append-drop i calls) (Memᴰ.append_left (drop i calls) m));
    }

-- the end of a movement is reached from its last position
last_serves : {n k : ℕ} {d : ℕ → ℕ → ℕ} (calls : List ℕ) (r : ℕ) {M : List (List ℕ)} → Metric n d → Movement n k (calls ++ (r ∷ [])) M
    → (X : List ℕ) × Serves n k r X × ((A C : List ℕ) → cost d A M X + distance d X C ≡ cost d A M C)
unfolding cost
last_serves [] r laws (Forall₂.cons {b = X} h Forall₂.nil) = (X, h, λ A C. let still = distance_self laws h.0 in omega arith)
last_serves (q ∷ calls) r laws (Forall₂.cons {b = P} h more) =
    let rest = last_serves calls r laws more in
    (rest.0, rest.1, λ A C. let on = rest.2 P C in omega arith)

-- so w at any end is at least w at a position that serves the last call plus the way from there
pub work_last : {n : ℕ} {d : ℕ → ℕ → ℕ} {starts : List ℕ} (calls : List ℕ) (r : ℕ) → Metric n d → Instance n starts (calls ++ (r ∷ []))
    → (C : List ℕ) → (X : List ℕ) × Serves n (length starts) r X
    × (work d n starts (calls ++ (r ∷ [])) X + distance d X C ≤ work d n starts (calls ++ (r ∷ [])) C)
work_last {d = d} {starts} calls r laws day C =
    let best = (work_least d day C).attained in
    let last = last_serves calls r laws best.1 in
    let to = (work_least d day last.0).below best.0 best.1 in
    let on = last.2 starts C in
    let sum = best.2 in
    (last.0, last.1, omega arith)

-- a movement, with a position that serves one call more as its last
then_serves : {n k : ℕ} {d : ℕ → ℕ → ℕ} {calls : List ℕ} {r : ℕ} {X : List ℕ} {M : List (List ℕ)} → Metric n d → Serves n k r X
    → Movement n k calls M → Movement n k (calls ++ (r ∷ [])) (M ++ (X ∷ [])) × ((A : List ℕ) → cost d A (M ++ (X ∷ [])) X ≡ cost d A M X)
unfolding cost
then_serves laws x Forall₂.nil = (Forall₂.cons x Forall₂.nil, λ A. let still = distance_self laws x.0 in omega arith)
then_serves laws x (Forall₂.cons {b = P} h more) =
    let rest = then_serves laws x more in
    (Forall₂.cons h rest.0, λ A. rw (rest.1 P))

-- so where a crane is at the next call, w with it as the last is no more than before it
pub work-served : {n : ℕ} {d : ℕ → ℕ → ℕ} {starts calls : List ℕ} {r : ℕ} {X : List ℕ} → Metric n d → Instance n starts calls → r < n
    → Serves n (length starts) r X → work d n starts (calls ++ (r ∷ [])) X ≤ work d n starts calls X
work-served {d = d} {starts} {X = X} laws day asked x =
    let best = (work_least d day X).attained in
    let longer = then_serves laws x best.1 in
    rw (← best.2, ← longer.1 starts) ((work_least d (instance_then day asked) X).below _ longer.0)
