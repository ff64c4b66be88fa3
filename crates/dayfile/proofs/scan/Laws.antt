-- What an accepted record is, by its kind, and what the numbers of a scan keep: they are within the limits, and together
-- they make the number of records read. Assumes nothing.
use Prim.Native.Nat.{ℕ, ◌+◌, ◌<◌, ◌≤◌, zero-le}
use mathlib.Core.Bool.{Bool, true, cond}
use mathlib.Core.List.{List}
use mathlib.Core.Path.{◌≡◌, refl, sym, ap, subst⁻¹, ◌∙◌}
use lib.Dec.{eqb, ltb, lit<, lit≤}
use lib.ListN.{length, get_or, drop, drop_of_length-le}
use lib.Seq.{drop-cons}
use borrow.Author.Tests.{eqb-true, ltb-true, eq-eqb, ne_eqb}
use native.Mathlib.Decide.{ℕ_discrete}
use native.Mathlib.Numerals.{add-one}
use native.Mathlib.Omega.{arith}
use Rattle.base.specs.Numbers.{unless}
use Rattle.base.specs.Tests.{within}
use Rattle.base.proofs.Numbers.{unless-zero, then_zero, first_of, zeros_told}
use Rattle.base.proofs.Tests.{within_least, within_most}
use Rattle.road.specs.Table.{most_places, metres_refusal, leg_count}
use Rattle.road.proofs.Order.{leg_count_more}
use Rattle.dayfile.specs.declared.codec.Record.{Record}
use Rattle.dayfile.specs.declared.scan.State.{State}
use Rattle.dayfile.specs.Day.{most_cranes, most_calls, stop}
use Rattle.dayfile.specs.Legs.{leg, none}
use Rattle.dayfile.specs.Scan.{Scan, refused, counted, refuse_at, scan, end_refusal, by_kind, start, after_leg, after, bare_refusal, form_refusal, leg_refusal, stop_refusal, crane_refusal, call_refusal, record_refusal}

-- an accepted record, by its kind
pub data Accepted (s : State) (r : Record) : Type 0 where
  a_leg : r ≡ leg s.first s.second r.metres → s.cranes ≡ 0 → s.second < most_places → metres_refusal r.metres ≡ 0 → Accepted s r
  a_crane : r ≡ stop 2 r.first → s.first ≡ 0 → s.calls ≡ 0 → r.first < s.second → s.cranes < most_cranes → Accepted s r
  a_call : r ≡ stop 3 r.first → s.first ≡ 0 → r.first < s.second → 0 < s.cranes → s.calls < most_calls → Accepted s r

module _ {A : Type 0} (kind : ℕ) (a b c : A) where
  of_leg : kind ≡ 1 → by_kind kind a b c ≡ a
  of_leg e = rw e

  of_crane : kind ≡ 2 → by_kind kind a b c ≡ b
  of_crane e = rw e

  of_call : (kind ≡ 1 → ⊥) → (kind ≡ 2 → ⊥) → by_kind kind a b c ≡ c
  of_call n m = rw (ne_eqb kind 1 n, ne_eqb kind 2 m)

module _ (s : State) (r : Record) where
  -- what a record of each kind has passed
  leg_form : r.kind ≡ 1 → r.pad ≡ 0 → r.gap ≡ 0 → r.first ≡ s.first → r.second ≡ s.second → r ≡ leg s.first s.second r.metres
  leg_form k p g f n = λ i. record { kind = k i; pad = p i; first = f i; second = n i; gap = g i; metres = r.metres }

  stop_form : (kind : ℕ) → r.kind ≡ kind → r.pad ≡ 0 → r.gap ≡ 0 → bare_refusal r ≡ 0 → r ≡ stop kind r.first
  unfolding bare_refusal
  stop_form kind k p g h =
      let second = first_of (eqb r.second 0) 1 (unless (eqb r.metres 0) 2) h in
      let n : r.second ≡ 0 = eqb-true r.second 0 second.0 in
      let m : r.metres ≡ 0 = eqb-true r.metres 0 (unless-zero (eqb r.metres 0) 1 second.1) in
      λ i. record { kind = k i; pad = p i; first = r.first; second = n i; gap = g i; metres = m i }

  legged : r.kind ≡ 1 → r.pad ≡ 0 → r.gap ≡ 0 → leg_refusal s r ≡ 0 → Accepted s r
  unfolding leg_refusal
  legged k p g h =
      let none = first_of (eqb s.cranes 0) 2 _ h in
      let first = first_of (eqb r.first s.first) 2 _ none.1 in
      let second = first_of (eqb r.second s.second) 2 _ first.1 in
      let below = first_of (ltb r.second most_places) 2 _ second.1 in
      let n : r.second ≡ s.second = eqb-true r.second s.second second.0 in
      a_leg (leg_form k p g (eqb-true r.first s.first first.0) n) (eqb-true s.cranes 0 none.0)
      (rw n at (ltb-true r.second most_places below.0)) below.1

  stopped : (rule : Bool) → stop_refusal s r rule ≡ 0 → (s.first ≡ 0) × ((r.first < s.second) × (rule ≡ true))
  unfolding stop_refusal
  stopped rule h =
      let legs = first_of (eqb s.first 0) 2 _ h in
      let place = first_of (ltb r.first s.second) 4 _ legs.1 in
      (eqb-true s.first 0 legs.0, (ltb-true r.first s.second place.0, unless-zero rule 5 place.1))

  craned : r ≡ stop 2 r.first → crane_refusal s r ≡ 0 → Accepted s r
  unfolding crane_refusal
  craned e h =
      let calls = first_of (eqb s.calls 0) 2 _ h in
      let met = stopped (ltb s.cranes most_cranes) calls.1 in
      a_crane e met.0 (eqb-true s.calls 0 calls.0) met.1.0 (ltb-true s.cranes most_cranes met.1.1)

  called : r ≡ stop 3 r.first → call_refusal s r ≡ 0 → Accepted s r
  unfolding call_refusal
  called e h =
      let both = then_zero (stop_refusal s r (ltb 0 s.cranes)) _ h in
      let met = stopped (ltb 0 s.cranes) both.0 in
      a_call e met.0 met.1.0 (ltb-true 0 s.cranes met.1.1) (ltb-true s.calls most_calls (unless-zero (ltb s.calls most_calls) 6 both.1))

  pub accepted : record_refusal s r ≡ 0 → Accepted s r
  unfolding record_refusal form_refusal
  accepted h =
      let both = then_zero (form_refusal r) _ h in
      let kind = first_of (within 1 3 r.kind) 1 _ both.0 in
      let pad = first_of (eqb r.pad 0) 1 _ kind.1 in
      let gap = first_of (eqb r.gap 0) 1 _ pad.1 in
      by_kind_lem (ℕ_discrete r.kind 1) (ℕ_discrete r.kind 2) (within_least 1 3 r.kind kind.0) (within_most 1 3 r.kind kind.0)
      (eqb-true r.pad 0 pad.0) (eqb-true r.gap 0 gap.0) gap.1 both.1
    where
      by_kind_lem : Dec (r.kind ≡ 1) → Dec (r.kind ≡ 2) → 1 ≤ r.kind → r.kind ≤ 3 → r.pad ≡ 0 → r.gap ≡ 0
          → cond (eqb r.kind 1) 0 (bare_refusal r) ≡ 0 → by_kind r.kind (leg_refusal s r) (crane_refusal s r) (call_refusal s r) ≡ 0
          → Accepted s r
      by_kind_lem (yes k) _ lo hi p g bare h = legged k p g (sym (of_leg r.kind _ _ _ k) ∙ h)
      by_kind_lem (no a) (yes k) lo hi p g bare h = craned (stop_form 2 k p g (rw (ne_eqb r.kind 1 a) at bare)) (sym (of_crane r.kind _ _ _ k) ∙ h)
      by_kind_lem (no a) (no b) lo hi p g bare h =
          called (stop_form 3 (omega arith) p g (rw (ne_eqb r.kind 1 a) at bare)) (sym (of_call r.kind _ _ _ a b) ∙ h)

  pub leg_next : Dec (s.first + 1 ≡ s.second) → (P : State → Type 0)
      → (s.first + 1 ≡ s.second → P (record { first = 0; second = s.second + 1; cranes = s.cranes; calls = s.calls }))
      → ((s.first + 1 ≡ s.second → ⊥) → P (record { first = s.first + 1; second = s.second; cranes = s.cranes; calls = s.calls }))
      → P (after_leg s)
  unfolding after_leg
  leg_next (yes e) P full more = rw (eq-eqb (s.first + 1) s.second e) (full e)
  leg_next (no n) P full more = rw (ne_eqb (s.first + 1) s.second n) (more n)

  pub after_leg_lem : r.kind ≡ 1 → after s r ≡ after_leg s
  unfolding after
  after_leg_lem k = of_leg r.kind _ _ _ k

  pub after-crane : r.kind ≡ 2 → after s r ≡ record { first = s.first; second = s.second; cranes = s.cranes + 1; calls = s.calls }
  unfolding after
  after-crane k = of_crane r.kind _ _ _ k

  pub after_call : r.kind ≡ 3 → after s r ≡ record { first = s.first; second = s.second; cranes = s.cranes; calls = s.calls + 1 }
  unfolding after
  after_call k = rw k

-- the numbers of a scan after i records
pub record Progress (s : State) (i : ℕ) : Type 0 where
  pub ordered : s.first < s.second
  pub places : s.second ≤ most_places
  pub cranes : s.cranes ≤ most_cranes
  pub calls : s.calls ≤ most_calls
  pub idle : s.cranes ≡ 0 → s.calls ≡ 0
  pub index : i ≡ leg_count s.second + s.first + s.cranes + s.calls

pub progress_start : Progress start 0
unfolding leg_count
progress_start = record { ordered = lit< tt; places = lit≤ tt; cranes = zero-le; calls = zero-le; idle = λ e. refl; index = refl }

module _ (s : State) (r : Record) (i : ℕ) where
  pub progress_after : Accepted s r → Progress s i → Progress (after s r) (i + 1)
  progress_after (a_leg e k n m) h =
      subst⁻¹ (λ (t : State). Progress t (i + 1)) (after_leg_lem s r (ap (λ (q : Record). q.kind) e))
      (leg_next s r (ℕ_discrete (s.first + 1) s.second) (λ (t : State). Progress t (i + 1))
      (λ f. record { ordered = omega arith; places = omega arith; cranes = h.cranes; calls = h.calls; idle = h.idle; index = omega (arith, leg_count_more s.second, h.index) })
      (λ f. record { ordered = omega arith; places = h.places; cranes = h.cranes; calls = h.calls; idle = h.idle; index = omega arith }))
  progress_after (a_crane e f m p k) h =
      subst⁻¹ (λ (t : State). Progress t (i + 1)) (after-crane s r (ap (λ (q : Record). q.kind) e))
      (record { ordered = h.ordered; places = h.places; cranes = omega arith; calls = h.calls; idle = λ z. m; index = omega arith })
  progress_after (a_call e f p k m) h =
      subst⁻¹ (λ (t : State). Progress t (i + 1)) (after_call s r (ap (λ (q : Record). q.kind) e))
      (record { ordered = h.ordered; places = h.places; cranes = h.cranes; calls = omega arith; idle = λ z. absurd (omega arith); index = omega arith })

pub refuses : (i n : ℕ) (x : Scan) → (n ≡ 0 → ⊥) → refuse_at i n x ≡ refused n i
refuses i n x h = sym (zeros_told n x (λ m. refused m i) h)

-- the scan of the records from index i on
module _ (rs : List Record) (i : ℕ) (s : State) (r : Record) (lt : i < length rs) (here : get_or rs i none ≡ r) where
  rest : Scan
  rest = scan (i + 1) (after s r) (drop (i + 1) rs)

  turn : scan i s (drop i rs) ≡ refuse_at i (record_refusal s r) rest
  unfolding scan rest
  turn = rw (drop-cons rs i none lt, here, add-one)

  pub scan-stops : (n : ℕ) (a : Scan) → n ≡ record_refusal s r → (n ≡ 0 → ⊥) → refuse_at i n a ≡ scan i s (drop i rs)
  scan-stops n a e h = refuses i n a h ∙ sym (refuses i n rest h) ∙ ap (λ (m : ℕ). refuse_at i m rest) e ∙ sym turn

  pub scan_goes_on : record_refusal s r ≡ 0 → scan i s (drop i rs) ≡ scan (i + 1) (after s r) (drop (i + 1) rs)
  unfolding rest
  scan_goes_on e = turn ∙ ap (λ (m : ℕ). refuse_at i m rest) e

pub scan_ends : (rs : List Record) (i : ℕ) (s : State) → length rs ≤ i → scan i s (drop i rs) ≡ refuse_at i (end_refusal s) (counted s)
unfolding scan
scan_ends rs i s h = rw (drop_of_length-le rs h)
