-- What is found by the index of a leg and by its pair of places, for every input.
use Rattle.std.specs.Prelude.{ℕ, ◌<◌, ◌&&◌, ◌≡◌, ltb, get_or, Result, Ok, Err}
use Rattle.base.specs.declared.Refusal.{Refusal}
use Rattle.base.specs.Numbers.{refusal_number, unless, unless_refused}
use Rattle.road.specs.Table.{Table, most_places, most_legs, leg_index, metres_of}
use Rattle.legorder.specs.declared.Pair.{Pair}
use Rattle.legorder.specs.Pairs.{leg_pair, pairs}

-- paper 7: "An index above 2,015 .. gives 5"
abbrev pub index_refusal : ℕ → ℕ
index_refusal i = unless (ltb i most_legs) 5

-- paper 7: "or a pair that isn't a leg (first place below second, second at most 63), gives 5"
abbrev pub pair_refusal : ℕ → ℕ → ℕ
pair_refusal u v = unless (ltb u v && ltb v most_places) 5

-- a pair that is found: the number, 0 where a leg has the index, and its places
pub record PairTold : Type 0 where
  pub number : ℕ
  pub pair : Pair

abbrev pub pair_found : Result Pair Refusal → PairTold
pair_found (Ok pair) = record { number = 0; pair = pair }
pair_found (Err r) = record { number = refusal_number r; pair = leg_pair 0 0 }

-- paper 7: "with a lookup by index"
unfoldable pub pair_at_of : ℕ → PairTold
pair_at_of i =
    unless_refused (index_refusal i) (record { number = 0; pair = get_or (pairs most_places) i (leg_pair 0 0) }) (λ n. record { number = n; pair = leg_pair 0 0 })

-- an index that is found: the number, 0 where the pair is a leg, and its index
pub record IndexTold : Type 0 where
  pub number : ℕ
  pub index : ℕ

abbrev pub index_found : Result ℕ Refusal → IndexTold
index_found (Ok index) = record { number = 0; index = index }
index_found (Err r) = record { number = refusal_number r; index = 0 }

-- paper 7: "and its inverse"
unfoldable pub index_of : ℕ → ℕ → IndexTold
index_of u v =
    unless_refused (pair_refusal u v) (record { number = 0; index = leg_index u v }) (λ n. record { number = n; index = 0 })

-- the pair is the leg of index i between the places below n
pub record LegAt (n i : ℕ) (p : Pair) : Type 0 where
  pub ascending : p.first < p.second
  pub within : p.second < n
  pub index : leg_index p.first p.second ≡ i

-- paper 7: "it must agree with the half table's layout": what is told of index i, beside entry i of a run of n places
pub record Agrees (n : ℕ) (t : Table) (i : ℕ) (told : PairTold) : Type 0 where
  pub number : told.number ≡ 0
  pub leg : LegAt n i told.pair
  pub metres : metres_of t told.pair.first told.pair.second ≡ get_or t i 0
