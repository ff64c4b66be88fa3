-- The laws of the metres of a table, of an accepted run, and of the rule of its legs.
-- Assumes nothing.
use Prim.Native.Nat.{ℕ, ◌<◌, ◌≤◌, zero-le}
use mathlib.Core.Bool.{true, and-false, and_comm}
use mathlib.Core.Path.{◌≡◌, sym, ◌∙◌}
use borrow.Author.Tests.{leb-true, le-leb, lt-ltb, le-ltb, eqb-true, eq-eqb}
use lib.Dec.{ltb, eqb}
use lib.ListN.{length, get_or, get_or-eq_default}
use native.Mathlib.Decide.{dec_lt}
use native.Mathlib.Nat.{le_of_lt, le_of_eq}
use native.Mathlib.Omega.{arith}
use Rattle.base.proofs.Numbers.{holds, first_of, unless-zero}
use Rattle.base.proofs.Tests.{by_order, within_yes, within_most, below_at}
use Rattle.road.specs.Table.{Table, most_places, most_metres, leg_count, leg_index, metres_of, entry, places_rule, places_refusal, run_refusal, metres_rule, legs_rule}

module _ (d : ℕ → ℕ → ℕ) (u v : ℕ) where
  pub entry_in : u < most_places → v < most_places → entry d u v ≡ d u v
  unfolding entry
  entry_in p q = rw (lt-ltb u most_places p, lt-ltb v most_places q)

  pub entry_past : most_places ≤ v → entry d u v ≡ 0
  unfolding entry
  entry_past p = rw (le-ltb v most_places p, and-false (ltb u most_places))

  -- what is the same both ways is read so
  pub entry_both : d u v ≡ d v u → entry d u v ≡ entry d v u
  unfolding entry
  entry_both e = rw (e, and_comm (ltb u most_places) (ltb v most_places))

module _ (t : Table) (u v : ℕ) where
  pub metres_up : u < v → metres_of t u v ≡ get_or t (leg_index u v) 0
  unfolding metres_of
  metres_up p = rw (lt-ltb u v p)

  pub metres_down : v < u → metres_of t u v ≡ get_or t (leg_index v u) 0
  unfolding metres_of
  metres_down p = rw (le-ltb u v (le_of_lt p), lt-ltb v u p)

  pub metres_self : u ≡ v → metres_of t u v ≡ 0
  unfolding metres_of
  metres_self e = rw (le-ltb u v (le_of_eq (sym e)), le-ltb v u (le_of_eq e))

pub metres_both : (t : Table) (u v : ℕ) → metres_of t u v ≡ metres_of t v u
metres_both t u v = by_order u v
    (λ (l : u < v). metres_up t u v l ∙ sym (metres_down t v u l))
    (λ (e : u ≡ v). metres_self t u v e ∙ sym (metres_self t v u (sym e)))
    (λ (l : v < u). metres_down t u v l ∙ sym (metres_up t v u l))

-- an accepted number of places
pub few_places : (n : ℕ) → 0 ≡ places_refusal n → n ≤ most_places
few_places n h = within_most 1 most_places n (holds (places_rule n) 2 h)

-- an accepted run has the legs of its places
pub run_accepted : (n l : ℕ) → run_refusal n l ≡ 0 → (places_rule n ≡ true) × (l ≡ leg_count n)
unfolding run_refusal
run_accepted n l h =
    let both = first_of (places_rule n) 2 _ h in
    (both.0, eqb-true l (leg_count n) (unless-zero (eqb l (leg_count n)) 2 both.1))

pub run_passes : (n l : ℕ) → 1 ≤ n → n ≤ most_places → l ≡ leg_count n → run_refusal n l ≡ 0
unfolding run_refusal
run_passes n l least most e = rw (within_yes 1 most_places n least most, eq-eqb l (leg_count n) e)

pub run_held : (n l : ℕ) → 0 ≡ run_refusal n l → (n ≤ most_places) × (leg_count n ≤ l)
run_held n l h =
    let told = run_accepted n l (sym h) in
    (within_most 1 most_places n told.0, le_of_eq (sym told.1))

-- accepted metres
pub metres_short : (m : ℕ) → metres_rule m ≡ true → m ≤ most_metres
metres_short m h = leb-true m most_metres h

module _ (t : Table) (legs : legs_rule t ≡ true) where
  -- past the run there are 0 metres
  leg-short : (i : ℕ) → get_or t i 0 ≤ most_metres
  leg-short i = either (dec_lt i (length t))
    where
      either : Dec (i < length t) → get_or t i 0 ≤ most_metres
      either (yes lt) = metres_short (get_or t i 0) (below_at (λ j. metres_rule (get_or t j 0)) (length t) legs i lt)
      either (no past) = rw (get_or-eq_default t 0 {n = i} (omega arith)) zero-le

  pub legs_short : (u v : ℕ) → metres_of t u v ≤ most_metres
  legs_short u v = by_order u v
      (λ (l : u < v). rw (metres_up t u v l) (leg-short (leg_index u v)))
      (λ (e : u ≡ v). rw (metres_self t u v e) zero-le)
      (λ (l : v < u). rw (metres_down t u v l) (leg-short (leg_index v u)))

  pub leg_metres : (u v : ℕ) → metres_rule (metres_of t u v) ≡ true
  leg_metres u v = le-leb (metres_of t u v) most_metres (legs_short u v)
