-- `dayfile::scan::scan` meets its contract: the scan from the record at hand on gives what the scan of the whole file gives.
-- Assumes nothing.
use Prim.Native.Nat.{ℕ, ◌+◌, ◌*◌, ◌/◌, ◌<◌, ◌≤◌, zero-le}
use mathlib.Core.List.{List}
use mathlib.Core.Path.{◌≡◌, refl, sym, ap, subst⁻¹, ◌∙◌}
use lib.ListN.{length, get_or, drop}
use native.Mathlib.Omega.{arith}
use Rattle.base.specs.declared.Refusal.{Refusal}
use Rattle.base.specs.Numbers.{refusal_number}
use Rattle.base.proofs.Numbers.{refused_number}
use Rattle.dayfile.specs.declared.codec.Record.{Record}
use Rattle.dayfile.specs.declared.scan.State.{State}
use Rattle.dayfile.specs.Codec.{decode, records}
use Rattle.dayfile.specs.Legs.{none}
use Rattle.dayfile.specs.Scan.{start, after, record_refusal, end_refusal, refused, counted, refuse_at, scan}
use Rattle.dayfile.proofs.codec.Laws.{length-records, record_at}
use Rattle.dayfile.proofs.scan.Laws.{progress_start, progress_after, accepted, refuses, scan-stops, scan_goes_on, scan_ends}
use Rattle.dayfile.proofs.scan.scan.Invariants.{Scanned}
use Rattle.dayfile.proofs.scan.scan.Goals as goal

module _ (bs : List ℕ) (s : State) (i : ℕ) (r : Record) (p : Scanned bs s i) (lt : i < length bs / 12) (e : r ≡ decode (drop (12 * i) bs)) where
  here : get_or (records bs) i none ≡ r
  here = record_at bs i lt ∙ sym e

  inside : i < length (records bs)
  inside = rw (length-records bs) lt

  stopped : (x : Refusal) → refusal_number x ≡ record_refusal s r → refused (refusal_number x) i ≡ scan 0 start (records bs)
  stopped x q =
      sym (refuses i (refusal_number x) (counted s) (refused_number x))
      ∙ scan-stops (records bs) i s r inside here (refusal_number x) (counted s) q (refused_number x) ∙ p.same

  turned : (t : State) → record_refusal s r ≡ 0 → t ≡ after s r → Scanned bs t (i + 1)
  turned t q f =
      subst⁻¹ (λ (u : State). Scanned bs u (i + 1)) f
      (record {
        most = omega arith;
        kept = progress_after s r i (accepted s r q) p.kept;
        same = sym (scan_goes_on (records bs) i s r inside here q) ∙ p.same;
      })

ended : (bs : List ℕ) (s : State) (i : ℕ) → Scanned bs s i → length bs / 12 ≤ i
    → refuse_at (length bs / 12) (end_refusal s) (counted s) ≡ scan 0 start (records bs)
ended bs s i p h =
    let e : length bs / 12 ≡ i = omega arith in
    rw e (sym (scan_ends (records bs) i s (rw (length-records bs) h)) ∙ p.same)

pub loop-index-init : goal.loop-index-init
loop-index-init c = record { most = zero-le; kept = progress_start; same = refl }

pub returns-in-Err : goal.returns-in-Err
returns-in-Err c = stopped _ c.loop-index.state c.loop-index.index c.read-r.result c.loop-index.invariant (omega arith) c.read-r.ensures _ c.in-Err.ensures.number

pub loop-index-preserved : goal.loop-index-preserved
loop-index-preserved c = turned _ c.loop-index.state c.loop-index.index c.read-r.result c.loop-index.invariant (omega arith)
    c.read-r.ensures c.next-state.result (sym c.in-Ok.ensures.number) (c.next-state.ensures c.read-r.result (sym c.in-Ok.ensures.kind))

pub returns-in-Ok-test_end : goal.returns-in-Ok-test_end
returns-in-Ok-test_end c = ap (λ (n : ℕ). refuse_at (length c.args.bytes.now / 12) n (counted c.loop-index.state)) c.in-Ok-test_end.ensures
    ∙ ended _ c.loop-index.state c.loop-index.index c.loop-index.invariant c.loop-index-test.false

pub returns-in-Err-test_end : goal.returns-in-Err-test_end
returns-in-Err-test_end c = sym (refuses _ _ (counted c.loop-index.state) (refused_number c.in-Err-test_end.refusal))
    ∙ ap (λ (n : ℕ). refuse_at (length c.args.bytes.now / 12) n (counted c.loop-index.state)) c.in-Err-test_end.ensures
    ∙ ended _ c.loop-index.state c.loop-index.index c.loop-index.invariant c.loop-index-test.false
