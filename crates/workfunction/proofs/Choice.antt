-- Laziness: no position has a lower sum than the single move chosen. And the choice by net costs. Assumes nothing.
use Prim.Native.Nat.{ℕ, ◌<◌, ◌≤◌}
use mathlib.Core.List.{List, [], ◌∷◌}
use mathlib.Core.Path.{◌≡◌, sym, ◌∙◌}
use lib.IntN.{ℤ, pos, ◌+ℤ◌, ◌-ℤ◌}
use lib.ListN.{length, set}
use native.Mathlib.Nat.{le_antisymm, le_trans}
use native.Mathlib.Omega.{arith}
use Rattle.base.specs.Metric.{Metric}
use Rattle.base.proofs.Signed.{difference_back, difference_more, difference_le, difference_only, ≤ℤ-antisymm}
use Rattle.workfunction.specs.Least.{IsLeast}
use Rattle.workfunction.specs.Position.{Position}
use Rattle.workfunction.specs.Movement.{Instance, Serves, work}
use Rattle.workfunction.specs.Choice.{preferred, moved, drive, work_then, move_sum, choice, net_cost, rearrangement_sum, Chosen}
use Rattle.workfunction.proofs.Keys.{NoLater, no_later_number, no_later_key, no_later_tied, preferred_below, preferred-first, preferred_least}
use Rattle.workfunction.proofs.Movement.{work_on, instance_then, work_last}
use Rattle.workfunction.proofs.Position.{pairing-set, distance_attained, distance_below, distance_flip, distance_triangle}
use Rattle.workfunction.proofs.Position.{distance-moved, position_set, together}
use Rattle.workfunction.proofs.Sums.{slot_of, set_in, in_reordered, length_order}

module _ {n : ℕ} {d : ℕ → ℕ → ℕ} (laws : Metric n d) {starts calls stands : List ℕ} (day : Instance n starts calls)
    (standing : Position n (length starts) stands) {r : ℕ} (asked : r < n) where
  -- the crane that the least pairing of the stands with C takes to the call does as well alone
  pub lazy : {C : List ℕ} → Serves n (length starts) r C
      → (s : ℕ) × (s < length stands) × (move_sum d n starts calls stands r s ≤ rearrangement_sum d n starts calls stands r C)
  unfolding move_sum rearrangement_sum drive
  lazy {C} (c, m) =
      let best = distance_attained d stands C in
      let slot = slot_of (in_reordered best.1 m) in
      let s = slot.0 in
      let same : length stands ≡ length best.0 = together standing c ∙ length_order best.1 in
      let lt : s < length stands = rw same slot.1 in
      let one : Position n (length starts) (set stands s r) = position_set stands s r asked standing in
      let alone = rw (slot.2, best.2, laws.self r asked) at (pairing-set d stands best.0 s r lt same) in
      let near = distance_below d (set stands s r) C best.1 in
      let on = work_on d (instance_then day asked) laws c one in
      let flip = distance_flip laws c one in
      (s, lt, omega arith)

  crane : 0 < length stands
  crane = rw standing.cranes day.crane

  pub choice_below : choice d n starts calls stands r < length stands
  unfolding choice
  choice_below = preferred_below _ (length stands) crane

  abbrev chosen : ℕ
  chosen = choice d n starts calls stands r

  no_lower : {C : List ℕ} → Serves n (length starts) r C
      → move_sum d n starts calls stands r chosen ≤ rearrangement_sum d n starts calls stands r C
  unfolding choice
  no_lower h =
      let one = lazy h in
      le_trans (preferred_least (move_sum d n starts calls stands r) _ (length stands) crane one.0 one.1) one.2

  none_lower : {C : List ℕ} → Position n (length starts) C
      → move_sum d n starts calls stands r chosen ≤ rearrangement_sum d n starts calls stands r C
  unfolding rearrangement_sum
  none_lower {C} c =
      let last = work_last calls r laws (instance_then day asked) C in
      let x = last.1.0 in
      let best = no_lower last.1 in
      let way = distance_triangle laws standing c x in
      let flip = distance_flip laws c x in
      let sum = last.2 in
      omega arith

  moved_serves : Serves n (length starts) r (moved stands r chosen)
  moved_serves = (position_set stands chosen r asked standing, set_in stands chosen r choice_below)

  moved_sum : rearrangement_sum d n starts calls stands r (moved stands r chosen) ≡ move_sum d n starts calls stands r chosen
  unfolding move_sum rearrangement_sum drive
  moved_sum =
      let near = distance-moved laws stands chosen r standing choice_below asked in
      le_antisymm (omega arith) (no_lower moved_serves)

  -- the sum of the single move chosen is the least of all rearrangements
  pub choice_least : IsLeast (Serves n (length starts) r) (rearrangement_sum d n starts calls stands r) (move_sum d n starts calls stands r chosen)
  choice_least = record { attained = (moved stands r chosen, moved_serves, moved_sum); below = λ C h. no_lower h }

  -- and of all positions, with a crane at the call or not: the choice is that of equation (1) of source document 000
  pub choice_minimal : IsLeast (Position n (length starts)) (rearrangement_sum d n starts calls stands r) (move_sum d n starts calls stands r chosen)
  choice_minimal = record { attained = (moved stands r chosen, moved_serves.0, moved_sum); below = λ C c. none_lower c }

-- ---- by net costs

-- where net cost and drive together are a sum less a, for every crane, the first by sum, drive and number is chosen
preferred_chosen : (k : ℕ) (net : ℕ → ℤ) (sum metres : ℕ → ℕ) (a : ℕ) → 0 < k
    → ((t : ℕ) → t < k → net t +ℤ pos (metres t) ≡ pos (sum t) -ℤ pos a) → Chosen k net metres (preferred (sum ∷ metres ∷ []) k)
preferred_chosen k net sum metres a some less =
    record {
      below = below;
      sum = λ t h.
          let low = no_later_key sum (metres ∷ []) s t (first t h) in
          rw (less s below, less t h) (difference_le (sum s) a (sum t) a (omega arith));
      drive = λ t h e. no_later_key metres [] s t (tied t h e);
      number = λ t h e way. no_later_number s t (no_later_tied metres [] s t (tied t h e) way);
    }
  where
    s : ℕ
    s = preferred (sum ∷ metres ∷ []) k

    below : s < k
    below = preferred_below (sum ∷ metres ∷ []) k some

    first : (t : ℕ) → t < k → NoLater (sum ∷ metres ∷ []) s t
    first = preferred-first (sum ∷ metres ∷ []) k some

    tied : (t : ℕ) → t < k → net s +ℤ pos (metres s) ≡ net t +ℤ pos (metres t) → NoLater (metres ∷ []) s t
    tied t h e =
        no_later_tied sum (metres ∷ []) s t (first t h) (difference_only (sum s) (sum t) a (sym (less s below) ∙ (e ∙ less t h)))

module _ (d : ℕ → ℕ → ℕ) (n : ℕ) (starts calls stands : List ℕ) (r : ℕ) where
  abbrev present : ℕ
  present = work d n starts calls stands

  abbrev after : ℕ → ℕ
  after s = work_then d n starts calls stands r (moved stands r s)

  -- the crane that the choice sends is the one that its net costs choose, by any list that has them
  pub choice_chosen : (net : ℕ → ℤ) → 0 < length stands → ((t : ℕ) → t < length stands → net t ≡ net_cost d n starts calls stands r t)
      → Chosen (length stands) net (drive d stands r) (choice d n starts calls stands r)
  unfolding choice net_cost move_sum
  choice_chosen net some told =
      preferred_chosen (length stands) net (move_sum d n starts calls stands r) (drive d stands r) present some
      (λ t h. rw (told t h) (difference_more (after t) present (drive d stands r t)))

  -- w once a crane is moved is the present least and its net cost together
  pub work_by_net : (s : ℕ) → pos (after s) ≡ pos present +ℤ net_cost d n starts calls stands r s
  unfolding net_cost
  work_by_net s = sym (difference_back (pos (after s)) (pos present))

-- no two cranes can be chosen
pub chosen_only : {k : ℕ} {net : ℕ → ℤ} {metres : ℕ → ℕ} (s t : ℕ) → Chosen k net metres s → Chosen k net metres t → s ≡ t
chosen_only s t h g =
    let sums = ≤ℤ-antisymm _ _ (h.sum t g.below) (g.sum s h.below) in
    let drives = le_antisymm (h.drive t g.below sums) (g.drive s h.below (sym sums)) in
    le_antisymm (h.number t g.below sums drives) (g.number s h.below (sym sums) (sym drives))
