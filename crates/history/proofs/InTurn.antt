-- A day of which each call is quoted and the crane quoted is committed has grown its book: the metres of its cranes make the drive of the
-- served day. Assumes nothing.
use Prim.Native.Nat.{ℕ, zero, suc, ◌+◌, ◌<◌, ◌≤◌}
use mathlib.Core.List.{List, [], ◌∷◌, ◌++◌, map, map-append}
use mathlib.Core.Path.{◌≡◌, refl, sym, ◌∙◌}
use lib.ListN.{length, get_or, take}
use lib.Seq.{take_all, take-suc, get_or-take}
use native.Mathlib.Nat.{le_refl}
use native.Mathlib.Numerals.{add-one}
use native.Mathlib.Omega.{arith}
use Rattle.road.specs.Table.{Table}
use Rattle.dayfile.specs.declared.Day.{Day}
use Rattle.dayfile.specs.Day.{day_requests, DayArrays, day_refusal}
use Rattle.dayfile.proofs.Limits.{day-tested, length_requests}
use Rattle.workfunction.specs.Lists.{sum_below}
use Rattle.book.specs.declared.Book.{Book}
use Rattle.book.specs.Book.{fresh_of}
use Rattle.dispatch.specs.InTurn.{call_at, quote_at, InTurn}
use Rattle.dispatch.specs.ServedDay.{served_day}
use Rattle.dispatch.proofs.InTurn.{in_turn_accepted}
use Rattle.history.specs.History.{Drive, drive_to, Grown, opened, committed, AsQuoted}
use Rattle.history.proofs.AsQuoted.{grown_served}
use Rattle.history.proofs.Grown.{grown_day}

module _ (day : Day) (t : Table) (books : ℕ → Book) (arrays : DayArrays day) (accepted : day_refusal day t ≡ 0) (turns : InTurn day t books) where
  calls-long : length (day_requests day) ≡ day.calls
  calls-long = length_requests day arrays (day-tested day t accepted).counts.calls

  -- the book once i cranes are committed, with its history
  pub record Turned (i : ℕ) : Type 0 where
    pub history : List Drive
    pub grown : Grown day t (books i) history
    pub quoted : AsQuoted day t grown
    pub calls : map (λ x. x.place) history ≡ take i (day_requests day)

  begun : Turned 0
  unfolding fresh_of AsQuoted
  begun = record { history = []; grown = opened (rw accepted) turns.opened; quoted = tt; calls = refl }

  module _ (i : ℕ) (so : Turned i) (h : i < day.calls) where
    -- the crane quoted, and its drive
    abbrev crane : ℕ
    crane = (quote_at day t books i).figures.crane

    abbrev one : Drive
    one = drive_to (books i) t (call_at day i) crane

    turned : Turned (i + 1)
    unfolding AsQuoted
    turned =
        let call : get_or (day_requests day) i 0 ≡ call_at day i = get_or-take day.calls day.requests i 0 h in
        record {
          history = so.history ++ (one ∷ []);
          grown =
              committed so.grown (call_at day i) crane (books (i + 1)).plan (books (i + 1)).weights
              (in_turn_accepted day t books arrays accepted turns i h).1 (turns.handed i h);
          quoted = (so.quoted, refl);
          calls =
              map-append (λ (x : Drive). x.place) so.history (one ∷ [])
              ∙ rw (so.calls, add-one i) (rw (← call) (sym (take-suc (day_requests day) i 0 (rw calls-long h))));
        }

  -- call by call
  pub in_turn_grown : (i : ℕ) → i ≤ day.calls → Turned i
  in_turn_grown zero h = begun
  in_turn_grown (suc i) h = rw (add-one i) at (turned i (in_turn_grown i (omega arith)) (omega arith))

  -- the metres of the cranes in the last book together are the drive of the served day
  pub in_turn_driven : let last = books day.calls in sum_below last.cranes (λ j. get_or last.driven j 0) ≡ (served_day day t).driven
  in_turn_driven =
      let so = in_turn_grown day.calls (le_refl day.calls) in
      grown_day day t arrays so.grown
      ∙ grown_served day t arrays so.grown so.quoted (so.calls ∙ take_all day.calls (day_requests day) (omega (arith, calls-long)))
