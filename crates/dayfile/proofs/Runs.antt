-- The records of a day within the limits are accepted one after another: its legs row by row, its cranes, its calls.
-- Assumes nothing.
use Prim.Native.Nat.{ℕ, zero, suc, ◌+◌, ◌<◌, ◌≤◌, zero-le, suc-le-suc}
use mathlib.Core.Bool.{true}
use mathlib.Core.List.{List, ◌∷◌, ◌++◌, append_assoc, append-nil}
use mathlib.Core.Path.{◌≡◌, refl, sym, ap, subst, ◌∙◌}
use borrow.Author.Tests.{eq-eqb, ne_eqb}
use lib.Seq.{append_snoc}
use native.Mathlib.Nat.{not-suc-le-zero, le_of_lt, le_refl}
use native.Mathlib.Numerals.{add-one}
use native.Mathlib.Omega.{arith}
use Rattle.base.specs.Lists.{up_to}
use Rattle.base.proofs.Lists.{up_to_more}
use Rattle.road.specs.Table.{Table, most_places, metres_of, metres_rule, in_order}
use Rattle.road.proofs.Table.{leg_metres}
use Rattle.dayfile.specs.declared.Day.{Day}
use Rattle.dayfile.specs.declared.codec.Record.{Record}
use Rattle.dayfile.specs.declared.scan.State.{State}
use Rattle.dayfile.specs.Day.{day_starts, day_requests, stop}
use Rattle.dayfile.specs.Legs.{leg, leg_records}
use Rattle.dayfile.specs.Scan.{start, after_leg, after}
use Rattle.dayfile.proofs.Grammar.{Run, done, more}
use Rattle.dayfile.proofs.Indices.{laid}
use Rattle.dayfile.proofs.Limits.{Tested, stops_at}
use Rattle.dayfile.proofs.scan.Laws.{Accepted, a_leg, a_crane, a_call}

abbrev pub state : ℕ → ℕ → ℕ → ℕ → State
state u v k m = record { first = u; second = v; cranes = k; calls = m }

-- the record r leads from the state s to t
abbrev Leads : State → Record → State → Type 0
Leads s r t = Accepted s r × (after s r ≡ t)

-- one record, and a list of them, before an accepted rest
led : {s t z : State} {r : Record} {rs : List Record} → Leads s r t → Run t rs z → Run s (r ∷ rs) z
led {z = z} {rs = rs} h run = more h.0 (subst (λ (t : State). Run t rs z) (sym h.1) run)

led_by : (n : ℕ) (f : ℕ → Record) (states : ℕ → State) {z : State} {rs : List Record} → ((j : ℕ) → j < n → Leads (states j) (f j) (states (j + 1)))
    → Run (states n) rs z → Run (states 0) (up_to n f ++ rs) z
unfolding up_to
led_by zero f states h run = run
led_by (suc n) f states h run =
    led (h 0 (suc-le-suc zero-le))
    (led_by n (λ j. f (suc j)) (λ j. states (suc j)) (λ j p. let next = h (suc j) (suc-le-suc p) in (next.0, next.1 ∙ ap states (omega arith))) run)

module _ (u v x : ℕ) (below : v < most_places) (rule : metres_rule x ≡ true) where
  leg_in_row : u + 1 < v → Leads (state u v 0 0) (leg u v x) (state (u + 1) v 0 0)
  unfolding after after_leg
  leg_in_row p = (a_leg refl refl below (rw rule), rw (ne_eqb (u + 1) v (λ e. omega arith)))

  leg_of_row : u + 1 ≡ v → Leads (state u v 0 0) (leg u v x) (state 0 (v + 1) 0 0)
  unfolding after after_leg
  leg_of_row p = (a_leg refl refl below (rw rule), rw (eq-eqb (u + 1) v p))

module _ (d : ℕ → ℕ → ℕ) {z : State} {rs : List Record} where
  run_row : (v w : ℕ) → w + 1 ≡ v → v < most_places → ((u : ℕ) → u < v → metres_rule (d u v) ≡ true) → Run (state 0 (v + 1) 0 0) rs z
      → Run (state 0 v 0 0) (up_to v (λ u. leg u v (d u v)) ++ rs) z
  run_row v w e below rule run =
      let row : ℕ → Record = λ u. leg u v (d u v) in
      subst (λ (k : ℕ). Run (state 0 v 0 0) (up_to k row ++ rs) z) e
      (rw (up_to_more w row, append_snoc (up_to w row) (row w) rs)
      (led_by w row (λ u. state u v 0 0) (λ u p. leg_in_row u v (d u v) below (rule u (omega arith)) (omega arith))
      (led (leg_of_row w v (d w v) below (rule w (omega arith)) e) run)))

module _ (d : ℕ → ℕ → ℕ) {z : State} where
  run_legs : (n : ℕ) → 1 ≤ n → n ≤ most_places → ((u v : ℕ) → u < v → v < n → metres_rule (d u v) ≡ true) → {rs : List Record}
      → Run (state 0 n 0 0) rs z → Run start (leg_records d n ++ rs) z
  unfolding in_order up_to
  run_legs zero one le rule run = absurd (not-suc-le-zero one)
  run_legs (suc zero) one le rule run = run
  run_legs (suc (suc n)) one le rule {rs} run =
      let row : List Record = up_to (suc n) (λ u. leg u (suc n) (d u (suc n))) in
      subst (λ (l : List Record). Run start l z) (sym (append_assoc (leg_records d (suc n)) row rs))
      (run_legs (suc n) (suc-le-suc zero-le) (le_of_lt le) (λ u v p q. rule u v p (le_of_lt (suc-le-suc q)))
      (run_row d (suc n) n (add-one n) le (λ u p. rule u (suc n) p (le_refl (suc (suc n)))) (rw add-one run)))

module _ (day : Day) (t : Table) (a b : ℕ → ℕ) (starts : day_starts day ≡ up_to day.cranes a) (requests : day_requests day ≡ up_to day.calls b) where
  pub run_day : Tested day t → Run start (laid (metres_of t) day.places a day.cranes b day.calls) (state 0 day.places day.cranes day.calls)
  unfolding after
  run_day h =
      let from = stops_at day.places day.cranes a (rw starts at h.starts) in
      let to = stops_at day.places day.calls b (rw requests at h.requests) in
      run_legs (metres_of t) day.places h.counts.place h.counts.places (λ u v p q. leg_metres t h.surveyed.legs u v)
      (led_by day.cranes (λ j. stop 2 (a j)) (λ j. state 0 day.places j 0) (λ j p. (a_crane refl refl refl (from j p) (omega arith), refl))
      (rw (← append-nil (up_to day.calls (λ j. stop 3 (b j))))
      (led_by day.calls (λ j. stop 3 (b j)) (λ j. state 0 day.places day.cranes j) (λ j p. (a_call refl refl (to j p) h.counts.crane (omega arith), refl))
      (done refl h.counts.crane))))
