-- The laws of a table of leg costs into which a number or a row is written, and of a row that is filled in two parts.
-- Assumes nothing.
use Prim.Native.Nat.{ℕ, ◌+◌, ◌-◌, ◌*◌, ◌<◌, ◌≤◌}
use mathlib.Core.List.{List, [], ◌++◌, append-nil}
use mathlib.Core.Path.{◌≡◌, sym, ap, ◌∙◌}
use lib.ListN.{length, get_or, set, take, drop, length-append, length-drop, drop_of_length-le, get_or-append}
use lib.Seq.{length-take-le, take_at, drop_at, get_or-append-add, get_or-take, get_or-drop, get_or-set_same, get_or-set_other}
use native.Mathlib.Omega.{arith}
use Rattle.base.specs.Lists.{up_to}
use Rattle.base.proofs.Lists.{length-up_to, get_or-up_to, up_to-same, up_to-append}
use Rattle.base.proofs.Tests.{by_order}
use Rattle.workfunction.specs.Plan.{stops, place}
use Rattle.workfunction.proofs.Stops.{place_stand}
use Rattle.book.proofs.Places.{place_past}
use Rattle.dispatch.specs.Legs.{plan_room, cell, follower_row, Costed}

-- a table whose followers keep their rows
pub costed_kept : {costs costs' : List ℕ} → Costed costs → length costs' ≡ length costs
    → ((b : ℕ) → b < plan_room → follower_row costs' b ≡ follower_row costs b) → Costed costs'
costed_kept k long same = record { long = rw long k.long; rows = λ b h. rw (same b h) (k.rows b h) }

-- the number in row i, column p is written
module _ (costs : List ℕ) (i p v : ℕ) (col : p < plan_room) where
  pub cell-written : plan_room * i + p < length costs → cell (set costs (plan_room * i + p) v) i p ≡ v
  unfolding cell
  cell-written fits = get_or-set_same costs (plan_room * i + p) v 0 fits

  -- every other number is as it was
  pub cell_kept : (j q : ℕ) → q < plan_room → (j ≡ i → q ≡ p → ⊥) → cell (set costs (plan_room * i + p) v) j q ≡ cell costs j q
  unfolding cell
  cell_kept j q lt other =
      get_or-set_other costs (plan_room * i + p) (plan_room * j + q) v 0 (λ (e : plan_room * j + q ≡ plan_room * i + p). other (omega arith) (omega arith))

-- row i, as far as n columns, as it is lent
abbrev pub lent : List ℕ → ℕ → ℕ → List ℕ
lent costs i n = take (plan_room * i + n - plan_room * i) (drop (plan_room * i) costs)

-- the table with that row put back
abbrev pub row_put_back : List ℕ → ℕ → ℕ → List ℕ → List ℕ
row_put_back costs i n row = take (plan_room * i) costs ++ (row ++ drop (plan_room * i + n - plan_room * i) (drop (plan_room * i) costs))

-- the row is filled by g
module _ (costs row : List ℕ) (i n : ℕ) (g : ℕ → ℕ) (fits : plan_room * i + n ≤ length costs)
    (same : row ≡ up_to (length (lent costs i n)) g) where
  row_is : row ≡ up_to n g
  row_is =
      same
      ∙ ap (λ (m : ℕ). up_to m g)
      (length-take-le (plan_room * i + n - plan_room * i) (drop (plan_room * i) costs) (rw length-drop (omega arith)) ∙ omega arith)

  row_long : length row ≡ n
  row_long = ap length row_is ∙ length-up_to n g

  front : length (take (plan_room * i) costs) ≡ plan_room * i
  front = length-take-le (plan_room * i) costs (omega arith)

  pub length_row : length (row_put_back costs i n row) ≡ length costs
  length_row = simp (length-append, front, row_long, length-drop) (omega arith)

  pub row_new : (p : ℕ) → p < n → cell (row_put_back costs i n row) i p ≡ g p
  unfolding cell
  row_new p h =
      ap (λ (m : ℕ). get_or (row_put_back costs i n row) (m + p) 0) (sym front) ∙ get_or-append-add (take (plan_room * i) costs) _ p 0
      ∙ rw row_is (get_or-append (up_to n g) _ 0 p (rw length-up_to h)) ∙ get_or-up_to n g p 0 h

  -- what stands before the row and behind it is as it was
  before : (k : ℕ) → k < plan_room * i → get_or (row_put_back costs i n row) k 0 ≡ get_or costs k 0
  before k h = get_or-append (take (plan_room * i) costs) _ 0 k (rw front h) ∙ get_or-take (plan_room * i) costs k 0 h

  behind : (m : ℕ) → get_or (row_put_back costs i n row) (plan_room * i + (n + m)) 0 ≡ get_or costs (plan_room * i + (n + m)) 0
  behind m =
      let e : plan_room * i + n - plan_room * i ≡ n = omega arith in
      ap (λ (k : ℕ). get_or (row_put_back costs i n row) (k + (n + m)) 0) (sym front) ∙ get_or-append-add (take (plan_room * i) costs) _ (n + m) 0
      ∙ ap (λ (k : ℕ). get_or (row ++ drop (plan_room * i + n - plan_room * i) (drop (plan_room * i) costs)) (k + m) 0) (sym row_long)
      ∙ get_or-append-add row _ m 0 ∙ rw e (get_or-drop n (drop (plan_room * i) costs) m 0) ∙ get_or-drop (plan_room * i) costs (n + m) 0

  -- and so are the other rows
  pub row_kept : n ≤ plan_room → (j p : ℕ) → p < plan_room → (j ≡ i → ⊥) → cell (row_put_back costs i n row) j p ≡ cell costs j p
  unfolding cell
  row_kept few j p h away =
      by_order j i (λ l. before (plan_room * j + p) (omega arith)) (λ e. absurd (away e)) (λ l. far (plan_room * j + p) (omega arith))
    where
      far : (k : ℕ) → plan_room * i + n ≤ k → get_or (row_put_back costs i n row) k 0 ≡ get_or costs k 0
      far k le =
          let e : plan_room * i + (n + (k - n - plan_room * i)) ≡ k = omega arith in
          rw e at (behind (k - n - plan_room * i))

-- a row in two parts: from the starts, then from the calls
module _ (d : ℕ → ℕ) (starts calls row front back : List ℕ) (some : length starts ≤ length row) (most : length row ≤ stops starts calls)
    (first : front ≡ up_to (length (take (length starts) row)) (λ p. d (get_or starts p 0))) where
  abbrev joined : List ℕ
  joined = front ++ drop (length starts) row

  front_is : front ≡ up_to (length starts) (λ p. d (get_or starts p 0))
  front_is = first ∙ ap (λ (m : ℕ). up_to m (λ p. d (get_or starts p 0))) (length-take-le (length starts) row some)

  front_long : length front ≡ length starts
  front_long = ap length front_is ∙ length-up_to _ _

  joined_long : length joined ≡ length row
  joined_long = simp (length-append, front_long, length-drop) (omega arith)

  rest_is : drop (length starts) joined ≡ drop (length starts) row
  rest_is = drop_at front _ (length starts) front_long

  place-call : (p : ℕ) → place starts calls (length starts + p) ≡ get_or calls p 0
  place-call p =
      let e : length starts + p - length starts ≡ p = omega arith in
      place_past starts calls (length starts + p) (omega arith) ∙ ap (λ (i : ℕ). get_or calls i 0) e

  pub row_joined : back ≡ up_to (length (take (length joined - length starts) (drop (length starts) joined))) (λ p. d (get_or calls p 0))
      → take (length starts) joined ++ (back ++ drop (length joined - length starts) (drop (length starts) joined))
      ≡ up_to (length row) (λ p. d (place starts calls p))
  row_joined second =
      let left = length row - length starts in
      let whole : length starts + left ≡ length row = omega arith in
      let many : length (take (length joined - length starts) (drop (length starts) joined)) ≡ left =
      rw (joined_long, rest_is) (length-take-le left (drop (length starts) row) (simp length-drop (omega arith)))
      in
      let none : drop (length joined - length starts) (drop (length starts) joined) ≡ [] =
      rw (joined_long, rest_is) (drop_of_length-le (drop (length starts) row) {i = left} (simp length-drop (omega arith)))
      in
      let sum : up_to (length row) (λ p. d (place starts calls p))
      ≡ up_to (length starts) (λ p. d (get_or starts p 0)) ++ up_to left (λ p. d (get_or calls p 0)) =
      ap (λ (m : ℕ). up_to m (λ p. d (place starts calls p))) (sym whole) ∙ up_to-append (length starts) left (λ p. d (place starts calls p))
      ∙ rw (up_to-same (length starts) _ _ (λ p h. ap d (place_stand starts calls p h)), up_to-same left _ _ (λ p h. ap d (place-call p)))
      in
      rw (take_at front (drop (length starts) row) (length starts) front_long, none, append-nil back, second, many, front_is) (sym sum)
