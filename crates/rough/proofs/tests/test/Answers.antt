-- `rough::tests::test` meets its contract: each refusal is handed up, and where none applies the next test decides. Assumes nothing.
use Prim.Native.Nat.{ℕ}
use mathlib.Core.Path.{◌≡◌, sym, ◌∙◌}
use Rattle.base.specs.Numbers.{◌then◌}
use Rattle.base.proofs.Numbers.{up, holds, asked_again, goes_on, handed_up}
use Rattle.road.specs.Table.{run_refusal}
use Rattle.dayfile.specs.declared.Day.{Day}
use Rattle.dayfile.proofs.Limits.{CountsTested, run_tested}
use Rattle.rough.specs.Rough.{two_counts_refusal, rough_refusal}
use Rattle.rough.proofs.tests.Laws.{two_counts, places_left}
use Rattle.rough.proofs.tests.test.Goals as goal

-- what the counts tell of either table, once they are accepted
module _ (day : Day) (lower upper : ℕ) (h : 0 ≡ two_counts_refusal day lower upper) where
  counted : CountsTested day.places lower day.cranes day.calls × CountsTested day.places upper day.cranes day.calls
  counted = two_counts day lower upper (sym h)

  -- the run of either table, asked again, leaves its legs to decide
  lows : (s t : ℕ) → s ≡ (run_refusal day.places lower then t) → s ≡ t
  lows s t e = asked_again _ t s (run_tested _ _ _ _ counted.0) e

  highs : (s t : ℕ) → s ≡ (run_refusal day.places upper then t) → s ≡ t
  highs s t e = asked_again _ t s (run_tested _ _ _ _ counted.1) e

pub returns-in_err-counts : goal.returns-in_err-counts
unfolding rough_refusal
returns-in_err-counts c = up _ _ _ c.from_residual.ensures.1 (handed_up _ _ _ c.in_err-counts.ensures)

pub returns-in_err-test_legs : goal.returns-in_err-test_legs
unfolding rough_refusal
returns-in_err-test_legs c = goes_on _ _ _ c.in_ok-counts.ensures
    (up _ _ _ c.from_residual-in_err-test_legs.ensures.1 (handed_up _ _ _ (lows _ _ _ c.in_ok-counts.ensures _ _ c.in_err-test_legs.ensures)))

pub returns-in_err-test_legs-2 : goal.returns-in_err-test_legs-2
unfolding rough_refusal
returns-in_err-test_legs-2 c = goes_on _ _ _ c.in_ok-counts.ensures (goes_on _ _ _ (lows _ _ _ c.in_ok-counts.ensures _ _ c.in_ok-test_legs.ensures)
    (up _ _ _ c.from_residual-in_err-test_legs-2.ensures.1 (handed_up _ _ _ (highs _ _ _ c.in_ok-counts.ensures _ _ c.in_err-test_legs-2.ensures))))

pub test-requires : goal.test-requires
test-requires c = let both = counted _ _ _ c.in_ok-counts.ensures in both.0.legs ∙ sym both.1.legs

pub returns-in_err-test : goal.returns-in_err-test
unfolding rough_refusal
returns-in_err-test c = goes_on _ _ _ c.in_ok-counts.ensures (goes_on _ _ _ (lows _ _ _ c.in_ok-counts.ensures _ _ c.in_ok-test_legs.ensures)
    (goes_on _ _ _ (highs _ _ _ c.in_ok-counts.ensures _ _ c.in_ok-test_legs-2.ensures)
    (up _ _ _ c.from_residual-in_err-test.ensures.1 (handed_up _ _ _ c.in_err-test.ensures))))

pub returns : goal.returns
unfolding rough_refusal
returns c = let legs = holds _ 3 (highs _ _ _ c.in_ok-counts.ensures _ _ c.in_ok-test_legs-2.ensures) in
    goes_on _ _ _ c.in_ok-counts.ensures (goes_on _ _ _ (lows _ _ _ c.in_ok-counts.ensures _ _ c.in_ok-test_legs.ensures)
    (goes_on _ _ _ (highs _ _ _ c.in_ok-counts.ensures _ _ c.in_ok-test_legs-2.ensures)
    (goes_on _ _ _ c.in_ok-test.ensures (c.test_placed.ensures ∙ places_left _ _ (counted _ _ _ c.in_ok-counts.ensures).1 legs))))
