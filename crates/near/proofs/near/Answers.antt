-- `near::near` meets its contract: a refusal leaves the buffer as it is, else the first cranes in their order are at its front.
-- Assumes nothing.
use Prim.Native.Nat.{ℕ, ◌≤◌}
use mathlib.Core.List.{List}
use mathlib.Core.Path.{◌≡◌, sym}
use borrow.Author.Rules.{rules}
use lib.ListN.{length}
use lib.Seq.{length-take-le}
use native.Mathlib.Omega.{arith}
use Rattle.base.proofs.Numbers.{exits, refused_number}
use Rattle.road.specs.Table.{Table}
use Rattle.dayfile.specs.Day.{most_cranes}
use Rattle.book.specs.declared.Book.{Book}
use Rattle.book.specs.Book.{BookArrays}
use Rattle.book.proofs.Sound.{Sound}
use Rattle.near.specs.Near.{near_refusal}
use Rattle.near.proofs.NearCranes.{near_refused, near_sound, near_placed, drives_taken, near_short, near_told}
use Rattle.near.proofs.Standing.{as_many_stands, few_stands, stands_in_table}
use Rattle.near.proofs.near.Goals as goal

-- what the tests tell once they accepted
module _ (book : Book) (n : ℕ) (t : Table) (place : ℕ) (h : 0 ≡ near_refusal book n t place) where
  sound : Sound book n t
  sound = near_sound book n t place (sym h)

  -- the array of the metres has an entry for each crane
  enough : (metres : List ℕ) → length metres ≡ most_cranes → book.cranes ≤ length metres
  enough metres long = rw long sound.counts.cranes

pub returns-in_err-test : goal.returns-in_err-test
returns-in_err-test c = rw (exits _ _ c.from_residual.ensures.1) (near_refused _ _ _ _ _ _ _ c.in_err-test.ensures (refused_number _))

pub slice_bounds-of_stands-end : goal.slice_bounds-of_stands-end
slice_bounds-of_stands-end c = let arrays : BookArrays c.args.book = record { starts = search rules; stands = search rules; requests = search rules; driven = search rules } in
    as_many_stands arrays (sound _ _ _ _ c.in_ok-test.ensures)

pub of_stands-found-requires : goal.of_stands-found-requires
of_stands-found-requires c = let arrays : BookArrays c.args.book = record { starts = search rules; stands = search rules; requests = search rules; driven = search rules } in
    let s = sound _ _ _ _ c.in_ok-test.ensures in
    record { few = few_stands arrays s; standing = stands_in_table arrays s; placed = near_placed _ _ _ _ (sym c.in_ok-test.ensures) }

pub slice_bounds-found-end : goal.slice_bounds-found-end
slice_bounds-found-end c = enough _ _ _ _ c.in_ok-test.ensures _ (search rules)

pub slice_bounds-metres-end : goal.slice_bounds-metres-end
slice_bounds-metres-end c = sym (length-take-le _ _ (enough _ _ _ _ c.in_ok-test.ensures _ (search rules)))

pub returns-then-out-count : goal.returns-then-out-count
returns-then-out-count c = let arrays : BookArrays c.args.book = record { starts = search rules; stands = search rules; requests = search rules; driven = search rules } in
    let tested = sym c.in_ok-test.ensures in
    let found = drives_taken _ _ _ _ tested arrays c.of_stands-found.result c.of_stands-found.ensures in
    near_short _ _ _ _ tested arrays c.args.distance c.args.out.now c.within-count.result (rw found at c.within-count.ensures) (omega (arith, c.if-out-count.true))

pub put-requires : goal.put-requires
put-requires c = let few = enough _ _ _ _ c.in_ok-test.ensures c.of_stands-found.result (search rules) in
    record { few = rw (length-take-le _ _ few) (sound _ _ _ _ c.in_ok-test.ensures).counts.cranes; room = c.if-out-count.false }

pub returns : goal.returns
returns c = let arrays : BookArrays c.args.book = record { starts = search rules; stands = search rules; requests = search rules; driven = search rules } in
    let tested = sym c.in_ok-test.ensures in
    let found = drives_taken _ _ _ _ tested arrays c.of_stands-found.result c.of_stands-found.ensures in
    near_told _ _ _ _ tested arrays _ _ _ (rw found at c.within-count.ensures) _ _ c.if-out-count.false (rw found at c.put.ensures) (rw found at c.nth.ensures)

pub shared_ref_as_front-of_stands : goal.shared_ref_as_front-of_stands
shared_ref_as_front-of_stands c = (sound _ _ _ _ c.in_ok-test.ensures).counts.cranes
