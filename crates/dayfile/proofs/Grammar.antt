-- Records that a scan accepts, one after another: the scan counts them, and each is a leg, a crane or a call at its index.
-- Assumes nothing.
use Prim.Native.Nat.{ℕ, zero, suc, ◌+◌, ◌<◌, ◌≤◌}
use mathlib.Core.Bool.{true}
use mathlib.Core.List.{List, [], ◌∷◌}
use mathlib.Core.Path.{◌≡◌, refl, sym, ap, subst, subst⁻¹, ◌∙◌}
use borrow.Author.Count.{below_more}
use borrow.Author.Tests.{eqb-true, ltb-true, eq-eqb, lt-ltb}
use lib.Dec.{eqb, ltb, lit<}
use lib.ListN.{length, get_or, drop}
use lib.Seq.{get_or-drop, drop-drop}
use native.Mathlib.Decide.{ℕ_discrete}
use native.Mathlib.Nat.{add-zero}
use native.Mathlib.Omega.{arith}
use Rattle.base.specs.Tests.{within}
use Rattle.base.proofs.Numbers.{unless-zero, then_zero}
use Rattle.road.specs.Table.{most_places, most_metres, metres_rule, leg_count}
use Rattle.road.proofs.Table.{metres_short}
use Rattle.dayfile.specs.declared.codec.Record.{Record}
use Rattle.dayfile.specs.declared.scan.State.{State}
use Rattle.dayfile.specs.Day.{most_cranes, most_calls, stop}
use Rattle.dayfile.specs.File.{answer_of}
use Rattle.dayfile.specs.Legs.{leg, none}
use Rattle.dayfile.specs.Scan.{Scan, counted, refuse_at, start, after, bare_refusal, form_refusal, leg_refusal, stop_refusal, crane_refusal, call_refusal, record_refusal, missing_refusal, end_refusal, scan}
use Rattle.dayfile.proofs.Digits.{Fits, AllFit}
use Rattle.dayfile.proofs.scan.Laws.{Accepted, a_leg, a_crane, a_call, accepted, leg_next, after_leg_lem, after-crane, after_call, Progress, progress_start, progress_after}

-- an accepted record is not refused
passes : (s : State) (r : Record) → Accepted s r → record_refusal s r ≡ 0
unfolding record_refusal form_refusal bare_refusal leg_refusal stop_refusal crane_refusal call_refusal within
passes s r (a_leg e k n m) =
    subst⁻¹ (λ (q : Record). record_refusal s q ≡ 0) e
    (rw (eq-eqb s.cranes 0 k, eq-eqb s.first s.first refl, eq-eqb s.second s.second refl, lt-ltb s.second most_places n) m)
passes s r (a_crane e f m p k) =
    subst⁻¹ (λ (q : Record). record_refusal s q ≡ 0) e
    (rw (eq-eqb s.calls 0 m, eq-eqb s.first 0 f, lt-ltb r.first s.second p, lt-ltb s.cranes most_cranes k))
passes s r (a_call e f p k m) =
    subst⁻¹ (λ (q : Record). record_refusal s q ≡ 0) e
    (rw (eq-eqb s.first 0 f, lt-ltb r.first s.second p, lt-ltb 0 s.cranes k, lt-ltb s.calls most_calls m))

-- the states of a scan that accepts some records, from the first to the last
pub data Run : State → List Record → State → Type 0 where
  done : {s : State} → s.first ≡ 0 → 0 < s.cranes → Run s [] s
  more : {s t : State} {r : Record} {rs : List Record} → Accepted s r → Run (after s r) rs t → Run s (r ∷ rs) t

pub run_counted : {s t : State} {rs : List Record} → Run s rs t → (i : ℕ) → scan i s rs ≡ counted t
unfolding scan end_refusal
run_counted (done {s} f k) i = rw (eq-eqb s.first 0 f, lt-ltb 0 s.cranes k)
run_counted (more {s} {r = r} a run) i = rw (passes s r a) (run_counted run (i + 1))

pub run_ended : {s t : State} {rs : List Record} → Run s rs t → (t.first ≡ 0) × (0 < t.cranes)
run_ended (done f k) = (f, k)
run_ended (more a run) = run_ended run

module _ (all : List Record) where
  pub not_refused : (i n : ℕ) (x : Scan) → (answer_of all (refuse_at i n x)).number ≡ 0 → (n ≡ 0) × ((answer_of all x).number ≡ 0)
  not_refused i zero x h = (refl, h)
  not_refused i (suc n) x h = absurd (let z : suc n ≡ 0 = h in omega arith)

  pub run_of : (rs : List Record) (i : ℕ) (s : State) → (answer_of all (scan i s rs)).number ≡ 0 → (t : State) × Run s rs t
  unfolding scan end_refusal
  run_of [] i s h =
      let both = then_zero (missing_refusal s) _ (not_refused i (end_refusal s) (counted s) h).0 in
      (s, done (eqb-true s.first 0 (unless-zero (eqb s.first 0) 2 both.0)) (ltb-true 0 s.cranes (unless-zero (ltb 0 s.cranes) 5 both.1)))
  run_of (r ∷ rs) i s h =
      let both = not_refused i (record_refusal s r) (scan (i + 1) (after s r) rs) h in
      let rest = run_of rs (i + 1) (after s r) both.1 in
      (rest.0, more (accepted s r both.0) rest.1)

pub run_progress : {s t : State} {rs : List Record} → Run s rs t → (i : ℕ) → Progress s i → Progress t (i + length rs)
run_progress (done {s} f k) i h = rw add-zero h
run_progress (more {s} {t} {r} {rs} a run) i h =
    subst (Progress t) (omega arith) (run_progress run (i + 1) (progress_after s r i a h))

-- an accepted record can be written
stop_fits : (kind p : ℕ) → p < most_places → Fits (stop kind p)
stop_fits kind p h = record { first = omega arith; second = lit< tt; gap = lit< tt; metres = lit< tt }

fits : (s : State) (r : Record) (i : ℕ) → Accepted s r → Progress s i → Fits r
fits s r i (a_leg e k n m) h =
    let most : r.metres ≤ most_metres = metres_short r.metres (unless-zero (metres_rule r.metres) 3 m) in
    subst⁻¹ Fits e (record { first = omega arith; second = omega arith; gap = lit< tt; metres = omega arith })
fits s r i (a_crane e f m p k) h = subst⁻¹ Fits e (stop_fits 2 r.first (omega arith))
fits s r i (a_call e f p k m) h = subst⁻¹ Fits e (stop_fits 3 r.first (omega arith))

pub run_fits : {s t : State} {rs : List Record} → Run s rs t → (i : ℕ) → Progress s i → AllFit rs
run_fits (done f k) i h = tt
run_fits (more {s} {r = r} a run) i h = (fits s r i a h, run_fits run (i + 1) (progress_after s r i a h))

-- a leg and a stop within the rules
abbrev pub IsLeg : ℕ → ℕ → Record → Type 0
IsLeg u v r = (r ≡ leg u v r.metres) × (metres_rule r.metres ≡ true)

abbrev pub IsStop : ℕ → ℕ → Record → Type 0
IsStop kind n r = (r ≡ stop kind r.first) × (r.first < n)

abbrev pub LegAt : List Record → ℕ → ℕ → Type 0
LegAt all v u = IsLeg u v (get_or all (leg_count v + u) none)

-- what the records are that were read before the state s
pub record Read (all : List Record) (s : State) : Type 0 where
  pub legs : (v : ℕ) → v < s.second → (u : ℕ) → u < v → LegAt all v u
  pub row : (u : ℕ) → u < s.first → LegAt all s.second u
  pub cranes : (j : ℕ) → j < s.cranes → IsStop 2 s.second (get_or all (leg_count s.second + j) none)
  pub calls : (j : ℕ) → j < s.calls → IsStop 3 s.second (get_or all (leg_count s.second + s.cranes + j) none)

module _ (all : List Record) (s : State) (r : Record) (i : ℕ) (at : get_or all i none ≡ r) where
  -- the record read at its index
  here : (P : Record → Type 0) (j : ℕ) → i ≡ j → P r → P (get_or all j none)
  here P j e h = subst (λ (k : ℕ). P (get_or all k none)) e (subst⁻¹ P at h)

  read_after : Accepted s r → Progress s i → Read all s → Read all (after s r)
  read_after (a_leg e k n m) kept h =
      let idle : s.calls ≡ 0 = kept.idle k in
      let this = here (IsLeg s.first s.second) (leg_count s.second + s.first) (omega arith) (e, unless-zero (metres_rule r.metres) 3 m) in
      let row = below_more (LegAt all s.second) s.first h.row this in
      subst⁻¹ (Read all) (after_leg_lem s r (ap (λ (q : Record). q.kind) e))
      (leg_next s r (ℕ_discrete (s.first + 1) s.second) (Read all)
      (λ f. record {
        legs = below_more (λ (v : ℕ). (u : ℕ) → u < v → LegAt all v u) s.second h.legs (λ u p. row u (omega arith));
        row = λ u p. absurd (omega arith);
        cranes = λ j p. absurd (omega arith);
        calls = λ j p. absurd (omega arith);
      })
      (λ f. record { legs = h.legs; row = row; cranes = λ j p. absurd (omega arith); calls = λ j p. absurd (omega arith) }))
  read_after (a_crane e f m p k) kept h =
      subst⁻¹ (Read all) (after-crane s r (ap (λ (q : Record). q.kind) e))
      (record {
        legs = h.legs;
        row = h.row;
        cranes = below_more _ s.cranes h.cranes (here (IsStop 2 s.second) (leg_count s.second + s.cranes) (omega arith) (e, p));
        calls = λ j q. absurd (omega arith);
      })
  read_after (a_call e f p k m) kept h =
      subst⁻¹ (Read all) (after_call s r (ap (λ (q : Record). q.kind) e))
      (record {
        legs = h.legs;
        row = h.row;
        cranes = h.cranes;
        calls = below_more _ s.calls h.calls (here (IsStop 3 s.second) (leg_count s.second + s.cranes + s.calls) (omega arith) (e, p));
      })

read_run_lem : (all : List Record) {s t : State} {rs : List Record} → Run s rs t → (i : ℕ) → drop i all ≡ rs → Progress s i → Read all s → Read all t
read_run_lem all (done f k) i e kept h = h
read_run_lem all (more {s} {r = r} {rs} a run) i e kept h =
    let first : get_or all i none ≡ get_or (drop i all) 0 none = ap (λ (j : ℕ). get_or all j none) (sym (add-zero i)) ∙ sym (get_or-drop i all 0 none) in
    let at : get_or all i none ≡ r = first ∙ ap (λ (l : List Record). get_or l 0 none) e in
    let rest : drop (i + 1) all ≡ rs = sym (drop-drop 1 i all) ∙ ap (λ (l : List Record). drop 1 l) e in
    read_run_lem all run (i + 1) rest (progress_after s r i a kept) (read_after all s r i at a kept h)

pub all_read : (all : List Record) {t : State} → Run start all t → Read all t
all_read all run =
    read_run_lem all run 0 refl progress_start
    (record {
      legs = λ v p u q. absurd (omega arith);
      row = λ u p. absurd (omega arith);
      cranes = λ j p. absurd (omega arith);
      calls = λ j p. absurd (omega arith);
    })
