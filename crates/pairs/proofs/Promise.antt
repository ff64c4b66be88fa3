-- Paper 7: the lookup by index and its inverse give back what the other was given, and every road table and every day file has its legs at the
-- indices that are told. Assumes nothing.
use Prim.Native.Nat.{ℕ, ◌<◌, ◌≤◌}
use mathlib.Core.List.{List}
use mathlib.Core.Path.{◌≡◌, refl, ap, ◌∙◌}
use lib.ListN.{length, get_or, take, get_or-append}
use native.Mathlib.Nat.{le_refl}
use native.Mathlib.Omega.{arith}
use Rattle.base.proofs.Numbers.{then_zero}
use Rattle.base.proofs.Tests.{within_most}
use Rattle.road.specs.Table.{Table, most_places, leg_count, leg_index, metres_of, run_refusal, table_refusal}
use Rattle.road.proofs.Order.{all_legs, legs_before, leg_count_most, each_leg, length-in_order, in_order-at, in_order_out}
use Rattle.road.proofs.Table.{metres_up, run_accepted}
use Rattle.dayfile.specs.Codec.{records}
use Rattle.dayfile.specs.Day.{day_records}
use Rattle.dayfile.specs.File.{read_file, read_table}
use Rattle.dayfile.specs.Legs.{leg, leg_records, none}
use Rattle.dayfile.proofs.Limits.{day-tested}
use Rattle.dayfile.proofs.RoundTrip.{file_accepted, file_records}
use Rattle.legorder.specs.Pairs.{leg_pair, pairs}
use Rattle.pairs.specs.Lookup.{PairTold, pair_at_of, index_of, Agrees}
use Rattle.pairs.proofs.lookup.Laws.{index_below, pair_number, pair-leg, index_number, leg-told, leg_index_lem}

-- the index that is told of a pair is told this pair
pub pair_back : (u v : ℕ) → (index_of u v).number ≡ 0 → pair_at_of (index_of u v).index ≡ record { number = 0; pair = leg_pair u v }
pair_back u v h = let l = pair-leg u v (index_number u v h) in rw (leg_index_lem u v l.0 l.1) (leg-told u v l.0 l.1)

-- what holds of each leg between the places below n, with its index, holds of each of their indices, with the pair that is told of it
each_told : (P : ℕ → PairTold → Type 0) (n : ℕ) → n ≤ most_places
    → ((u v : ℕ) → u < v → v < n → P (leg_index u v) (record { number = 0; pair = leg_pair u v })) → (i : ℕ) → i < leg_count n → P i (pair_at_of i)
each_told P n most all =
    each_leg (λ (i : ℕ). P i (pair_at_of i)) n (λ u v p q. rw (leg-told u v p (omega arith)) (all u v p q))

-- the pair that is told of an index is told this index
pub index_back : (i : ℕ) → (pair_at_of i).number ≡ 0 → let p = (pair_at_of i).pair in index_of p.first p.second ≡ record { number = 0; index = i }
index_back i h =
    each_told (λ (j : ℕ) (x : PairTold). index_of x.pair.first x.pair.second ≡ record { number = 0; index = j }) most_places (le_refl most_places)
    leg_index_lem i (omega (arith, index_below i (pair_number i h), all_legs))

-- the pairs of the legs between fewer places are the first ones: leg i is the same pair in every table that has it
pub pairs_first : (n : ℕ) → n ≤ most_places → take (leg_count n) (pairs most_places) ≡ pairs n
pairs_first n most =
    in_order_out leg_pair (leg_pair 0 0) (pairs most_places) n (λ u v p q. in_order-at leg_pair (leg_pair 0 0) most_places u v p (omega arith))
    (rw (length-in_order leg_pair most_places) (omega (arith, leg_count_most n most, all_legs)))

-- each entry of a run that is as long as its places ask for is the metres between the two places that are told of its index
pub run_agrees : (n : ℕ) (t : Table) → run_refusal n (length t) ≡ 0 → (i : ℕ) → i < length t → Agrees n t i (pair_at_of i)
run_agrees n t h i lt =
    let run = run_accepted n (length t) h in
    each_told (Agrees n t) n (within_most 1 most_places n run.0)
    (λ u v p q. record { number = refl; leg = record { ascending = p; within = q; index = refl }; metres = metres_up t u v p })
    i (omega (arith, run.1))

-- .. so of every accepted road table
pub table_agrees : (n : ℕ) (t : Table) → table_refusal n t ≡ 0 → (i : ℕ) → i < length t → Agrees n t i (pair_at_of i)
table_agrees n t h = run_agrees n t (then_zero (run_refusal n (length t)) _ h).0

-- the records of an accepted day file begin with those of the legs that are told of their indices
pub file_agrees : (bs : List ℕ) → (read_file bs).number ≡ 0 → (i : ℕ) → i < leg_count (read_file bs).day.places
    → let p = (pair_at_of i).pair in get_or (records bs) i none ≡ leg p.first p.second (get_or (read_table bs) i 0)
unfolding day_records
file_agrees bs h =
    let n : ℕ = (read_file bs).day.places in
    let t : Table = read_table bs in
    each_told (λ (i : ℕ) (x : PairTold). get_or (records bs) i none ≡ leg x.pair.first x.pair.second (get_or t i 0)) n
    (day-tested (read_file bs).day t (file_accepted bs h)).counts.places
    (λ u v p q. rw (file_records bs h)
    (get_or-append (leg_records (metres_of t) n) _ none (leg_index u v) (rw (length-in_order (λ x y. leg x y (metres_of t x y)) n) (omega (arith, legs_before v n q)))
    ∙ in_order-at (λ x y. leg x y (metres_of t x y)) none n u v p q ∙ ap (leg u v) (metres_up t u v p)))
