-- The records of a day by their indices: what stands at each, and records that have it there are those of the day.
-- Assumes nothing.
use Prim.Native.Nat.{ℕ, ◌+◌, ◌<◌, ◌≤◌}
use mathlib.Core.List.{List, ◌++◌}
use mathlib.Core.Path.{◌≡◌, sym, ap₂, ◌∙◌}
use lib.ListN.{length, get_or, take, drop, length-drop, take-append-drop, get_or-append}
use lib.Seq.{drop-drop, take_all}
use native.Mathlib.Nat.{add_assoc}
use native.Mathlib.Omega.{arith}
use Rattle.base.specs.Lists.{up_to}
use Rattle.base.proofs.Lists.{length-up_to, get_or-up_to, get_or_behind, up_to-same, part_up_to}
use Rattle.road.specs.Table.{leg_count, leg_index}
use Rattle.road.proofs.Order.{legs_before, length-in_order, in_order-at, in_order_out}
use Rattle.dayfile.specs.declared.codec.Record.{Record}
use Rattle.dayfile.specs.Day.{stop}
use Rattle.dayfile.specs.Legs.{leg, leg_records, none}

-- the records with the metres d, the starts a and the requests b
abbrev pub laid : (ℕ → ℕ → ℕ) → ℕ → (ℕ → ℕ) → ℕ → (ℕ → ℕ) → ℕ → List Record
laid d n a k b m = leg_records d n ++ (up_to k (λ j. stop 2 (a j)) ++ up_to m (λ j. stop 3 (b j)))

-- each of them at its index
pub record Laid (all : List Record) (d : ℕ → ℕ → ℕ) (n : ℕ) (a : ℕ → ℕ) (k : ℕ) (b : ℕ → ℕ) (m : ℕ) : Type 0 where
  pub legs : (u v : ℕ) → u < v → v < n → get_or all (leg_index u v) none ≡ leg u v (d u v)
  pub cranes : (j : ℕ) → j < k → get_or all (leg_count n + j) none ≡ stop 2 (a j)
  pub calls : (j : ℕ) → j < m → get_or all (leg_count n + k + j) none ≡ stop 3 (b j)

-- a part of a list whose entries are known
part_out : (all : List Record) (i n : ℕ) (f : ℕ → Record) → ((j : ℕ) → j < n → get_or all (i + j) none ≡ f j) → i + n ≤ length all
    → take n (drop i all) ≡ up_to n f
part_out all i n f h le = part_up_to n all i none le ∙ up_to-same n _ f h

module _ (d : ℕ → ℕ → ℕ) (n : ℕ) (a : ℕ → ℕ) (k : ℕ) (b : ℕ → ℕ) (m : ℕ) where
  pub laid_at : Laid (laid d n a k b m) d n a k b m
  laid_at =
      let cs : List Record = up_to k (λ j. stop 2 (a j)) in
      let legs : length (leg_records d n) ≡ leg_count n = length-in_order (λ u v. leg u v (d u v)) n in
      let cranes : length cs ≡ k = length-up_to k _ in
      record {
        legs = λ u v p q. get_or-append (leg_records d n) _ none (leg_index u v) (omega (arith, legs_before v n q)) ∙ in_order-at (λ x y. leg x y (d x y)) none n u v p q;
        cranes = λ j p. get_or_behind (leg_records d n) _ (leg_count n) j none legs ∙ get_or-append cs _ none j (omega arith) ∙ get_or-up_to k _ j none p;
        calls = λ j p. rw add_assoc (get_or_behind (leg_records d n) _ (leg_count n) (k + j) none legs ∙ get_or_behind cs _ k j none cranes ∙ get_or-up_to m _ j none p);
      }

  pub laid_out : (all : List Record) → length all ≡ leg_count n + k + m → Laid all d n a k b m → all ≡ laid d n a k b m
  laid_out all e h =
      let i : ℕ = leg_count n in
      let last : drop (i + k) all ≡ take m (drop (i + k) all) = sym (take_all m (drop (i + k) all) (rw length-drop (omega arith))) in
      let calls : drop k (drop i all) ≡ up_to m (λ j. stop 3 (b j)) = drop-drop k i all ∙ last ∙ part_out all (i + k) m _ h.calls (omega arith) in
      sym (take-append-drop i all)
      ∙ ap₂ (λ (x y : List Record). x ++ y) (in_order_out (λ x y. leg x y (d x y)) none all n h.legs (omega arith))
      (sym (take-append-drop k (drop i all)) ∙ ap₂ (λ (x y : List Record). x ++ y) (part_out all i k _ h.cranes (omega arith)) calls)
