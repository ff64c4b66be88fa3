-- The laws of the places of stops and followers: only the metres between the places decide the costs of the legs.
-- Assumes nothing.
use Prim.Native.Nat.{ℕ, ◌-◌, ◌<◌, ◌≤◌}
use mathlib.Core.Bool.{true}
use mathlib.Core.List.{List, ◌++◌}
use mathlib.Core.Path.{◌≡◌, ap, ◌∙◌}
use lib.ListN.{length, get_or, get_or-eq_default}
use lib.Seq.{get_or-append-add}
use native.Mathlib.Decide.{dec_lt}
use native.Mathlib.Omega.{arith}
use Rattle.dayfile.specs.Day.{stops_rule}
use Rattle.dayfile.proofs.Limits.{stop_below}
use Rattle.workfunction.specs.Plan.{place, leg_cost}
use Rattle.workfunction.proofs.Stops.{place_stand}

-- the place of a call
pub place_past : (first calls : List ℕ) (p : ℕ) → length first ≤ p → place first calls p ≡ get_or calls (p - length first) 0
unfolding place
place_past first calls p low =
    ap (λ (i : ℕ). get_or (first ++ calls) i 0) (omega arith) ∙ get_or-append-add first calls (p - length first) 0

-- past the calls there is none
pub place_none : (first calls : List ℕ) (p : ℕ) → length first ≤ p → length calls ≤ p - length first → place first calls p ≡ 0
place_none first calls p low past = place_past first calls p low ∙ get_or-eq_default calls 0 {n = p - length first} past

-- places that keep their rule: tables that agree between the places below n have the same legs
module _ {n : ℕ} (some : 0 < n) where
  entry_below : (l : List ℕ) → stops_rule n l ≡ true → (i : ℕ) → get_or l i 0 < n
  entry_below l rule i = either (dec_lt i (length l))
    where
      either : Dec (i < length l) → get_or l i 0 < n
      either (yes h) = stop_below n l rule i h
      either (no h) = rw (get_or-eq_default l 0 {n = i} (omega arith)) some

  place_below : (first calls : List ℕ) → stops_rule n first ≡ true → stops_rule n calls ≡ true → (p : ℕ) → place first calls p < n
  place_below first calls f c p = either (dec_lt p (length first))
    where
      either : Dec (p < length first) → place first calls p < n
      either (yes h) = rw (place_stand first calls p h) (entry_below first f p)
      either (no h) = rw (place_past first calls p (omega arith)) (entry_below calls c (p - length first))

  pub same-costs : (starts calls stands : List ℕ) → stops_rule n starts ≡ true → stops_rule n calls ≡ true → stops_rule n stands ≡ true
      → (d e : ℕ → ℕ → ℕ) → ((u v : ℕ) → u < n → v < n → d u v ≡ e u v)
      → (p b : ℕ) → leg_cost d starts calls stands p b ≡ leg_cost e starts calls stands p b
  unfolding leg_cost
  same-costs starts calls stands from by to d e same p b = same _ _ (place_below starts calls from by p) (place_below stands calls to by b)
