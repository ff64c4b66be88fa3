-- What is written: bytes into a buffer, or the first refusal that applies; and of a day its records one behind another.
-- Assumes nothing.
use Prim.Native.Nat.{ℕ, zero, suc, ◌+◌, ◌*◌, ◌<◌, ◌≤◌}
use mathlib.Core.Bool.{Bool, true}
use mathlib.Core.List.{List, ◌++◌, map, append_assoc}
use mathlib.Core.Path.{◌≡◌, refl, ap, ◌∙◌}
use lib.Dec.{leb}
use lib.ListN.{length, drop, length-append, length-map}
use lib.Seq.{take_at, drop_at}
use native.Mathlib.Nat.{zero-add}
use native.Mathlib.Omega.{arith}
use Rattle.base.specs.Lists.{splice}
use Rattle.base.specs.Numbers.{unless, ◌then◌, unless_refused}
use Rattle.base.proofs.Numbers.{then_zero, zeros_told, refused_first, accepted_values}
use borrow.Author.Tests.{le-leb, lt-leb}
use Rattle.road.specs.Table.{Table, metres_of, leg_count}
use Rattle.road.proofs.Order.{length-in_order}
use Rattle.dayfile.specs.declared.Day.{Day}
use Rattle.dayfile.specs.declared.codec.Record.{Record}
use Rattle.dayfile.specs.Codec.{encode_all}
use Rattle.dayfile.specs.Day.{day_starts, day_requests, stop, day_records}
use Rattle.dayfile.specs.File.{Output, bytes_written, output_by, output_of, day_bytes}
use Rattle.dayfile.specs.Legs.{leg_records}
use Rattle.dayfile.proofs.codec.Laws.{length-encode_all, put_on}

-- ---- bytes written into a buffer, after some tests

first_decides : {A : Type 0} (n : ℕ) (b : Bool) (k : ℕ) (values : A) (zeros : ℕ → A) → (n ≡ 0 → b ≡ true)
    → unless_refused (n then unless b k) values zeros ≡ unless_refused n values zeros
first_decides zero b k values zeros h = rw (h refl)
first_decides (suc n) b k values zeros h = refl

numbered : (n : ℕ) (bytes out : List ℕ) → (output_by n bytes out).number ≡ n
numbered zero bytes out = refl
numbered (suc n) bytes out = refl

kept : (n : ℕ) (bytes out : List ℕ) → ((output_by n bytes out).number ≡ 0 → ⊥) → output_by n bytes out ≡ record { number = n; length = 0; buffer = out }
kept zero bytes out h = absurd (h refl)
kept (suc n) bytes out h = refl

module _ (tests : ℕ) (bytes out : List ℕ) where
  -- the number of the first that refuses: the tests, then that of the buffer
  pub output_number : (output_of tests bytes out).number ≡ (tests then unless (leb (length bytes) (length out)) 11)
  unfolding output_of
  output_number = numbered _ bytes out

  -- refused, nothing is written
  pub output_kept : ((output_of tests bytes out).number ≡ 0 → ⊥)
      → output_of tests bytes out ≡ record { number = tests then unless (leb (length bytes) (length out)) 11; length = 0; buffer = out }
  unfolding output_of
  output_kept h = kept _ bytes out h

  -- the tests refuse
  pub output_refused : (n : ℕ) → n ≡ tests → (n ≡ 0 → ⊥) → record { number = n; length = 0; buffer = out } ≡ output_of tests bytes out
  unfolding output_of
  output_refused n e h =
      rw (← e, ← refused_first n (unless (leb (length bytes) (length out)) 11) h) (zeros_told n _ (λ m. record { number = m; length = 0; buffer = out }) h)

  module _ (accepted : tests ≡ 0) {n : ℕ} (long : length bytes ≡ n) where
    -- 11
    pub output-short : length out < n → record { number = 11; length = 0; buffer = out } ≡ output_of tests bytes out
    unfolding output_of
    output-short h = rw (accepted, lt-leb (length bytes) (length out) (omega arith))

    pub output-written : (now : List ℕ) → n ≤ length out → now ≡ splice 0 bytes out → record { number = 0; length = n; buffer = now } ≡ output_of tests bytes out
    unfolding output_of
    output-written now h e = rw (accepted, le-leb (length bytes) (length out) (omega arith), long, e)

  -- where there is room for what the tests accept, they alone decide
  pub output_decided : (tests ≡ 0 → length bytes ≤ length out)
      → output_of tests bytes out ≡ output_by tests bytes out
  unfolding output_of
  output_decided room = first_decides tests (leb (length bytes) (length out)) 11 _ _ (λ e. le-leb (length bytes) (length out) (room e))

  -- where bytes are written no test refused, and all of them are written
  pub output_accepted : (output_of tests bytes out).number ≡ 0
      → (tests ≡ 0) × (output_of tests bytes out ≡ record { number = 0; length = length bytes; buffer = splice 0 bytes out })
  unfolding output_of
  output_accepted h =
      let none : (tests then unless (leb (length bytes) (length out)) 11) ≡ 0 =
      accepted_values {A = Output} _ _ (λ n. record { number = n; length = 0; buffer = out }) (λ o. o.number) (λ n. refl) h
      in
      ((then_zero tests _ none).0, rw none)

  pub output_bytes : (output_of tests bytes out).number ≡ 0 → bytes_written (output_of tests bytes out) ≡ bytes
  unfolding splice
  output_bytes h = rw (output_accepted h).1 (take_at bytes _ _ refl)

  -- "written output past the result's length is unchanged"
  pub output_past : (output_of tests bytes out).number ≡ 0 → drop (output_of tests bytes out).length (output_of tests bytes out).buffer ≡ drop (output_of tests bytes out).length out
  unfolding splice
  output_past h = rw (output_accepted h).1 (drop_at bytes _ (length bytes) refl ∙ ap (λ (n : ℕ). drop n out) (zero-add (length bytes)))

-- ---- a day's file

module _ (day : Day) (t : Table) (k : length (day_starts day) ≡ day.cranes) (m : length (day_requests day) ≡ day.calls) where
  abbrev legs : List Record
  legs = leg_records (metres_of t) day.places

  abbrev cranes : List Record
  cranes = map (stop 2) (day_starts day)

  abbrev calls : List Record
  calls = map (stop 3) (day_requests day)

  count : length (day_records day (metres_of t)) ≡ leg_count day.places + day.cranes + day.calls
  unfolding day_records
  count =
      simp (length-append, length-in_order, length-map, k, m) (omega arith)

  pub length-day : length (day_bytes day (metres_of t)) ≡ 12 * (leg_count day.places + day.cranes + day.calls)
  length-day = length-encode_all (day_records day (metres_of t)) ∙ ap (λ (n : ℕ). 12 * n) count

  -- the legs, the cranes behind them, and the calls behind those
  pub all_put : (old a b e : List ℕ) → 12 * (leg_count day.places + day.cranes + day.calls) ≤ length old
      → a ≡ splice 0 (encode_all legs) old
      → b ≡ splice (12 * leg_count day.places) (encode_all cranes) a
      → e ≡ splice (12 * (leg_count day.places + day.cranes)) (encode_all calls) b
      → e ≡ splice 0 (day_bytes day (metres_of t)) old
  unfolding day_records
  all_put old a b e fits p q r =
      let n : length legs ≡ leg_count day.places = length-in_order _ day.places in
      let c : length cranes ≡ day.cranes = length-map (day_starts day) (stop 2) ∙ k in
      let l : length calls ≡ day.calls = length-map (day_requests day) (stop 3) ∙ m in
      let two : length (legs ++ cranes) ≡ leg_count day.places + day.cranes = length-append legs cranes ∙ (omega arith) in
      let all : length ((legs ++ cranes) ++ calls) ≡ leg_count day.places + day.cranes + day.calls = length-append (legs ++ cranes) calls ∙ (omega arith) in
      let first : 12 * leg_count day.places ≡ 12 * (0 + length legs) = omega arith in
      let second : 12 * (leg_count day.places + day.cranes) ≡ 12 * (0 + length (legs ++ cranes)) = omega arith in
      let before : b ≡ splice 0 (encode_all (legs ++ cranes)) old = q ∙ rw (p, first) (put_on 0 legs old cranes (omega arith)) in
      r ∙ rw (before, second) (put_on 0 (legs ++ cranes) old calls (omega arith))
      ∙ ap (λ (rs : List Record). splice 0 (encode_all rs) old) (append_assoc legs cranes calls)
