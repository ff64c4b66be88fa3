-- `near::occupancy` meets its contract: a refusal of the book is handed up with zeros, else the answers are those of the mask of its
-- stands. Assumes nothing.
use mathlib.Core.Path.{sym}
use borrow.Author.Rules.{rules}
use Rattle.base.proofs.Numbers.{exits, refused_number}
use Rattle.book.specs.Book.{BookArrays}
use Rattle.book.proofs.Sound.{book_sound}
use Rattle.near.proofs.Standing.{as_many_stands, stands_in_table}
use Rattle.near.proofs.HeldPlaces.{occupancy_refused, occupancy_told}
use Rattle.near.proofs.occupancy.Goals as goal

pub returns-in_err-test : goal.returns-in_err-test
returns-in_err-test c = rw (exits _ _ c.from_residual.ensures.1) (occupancy_refused _ _ _ _ c.in_err-test.ensures (refused_number _))

pub slice_bounds-of_places-end : goal.slice_bounds-of_places-end
slice_bounds-of_places-end c = let arrays : BookArrays c.args.book = record { starts = search rules; stands = search rules; requests = search rules; driven = search rules } in
    as_many_stands arrays (book_sound (sym c.in_ok-test.ensures))

pub of_places-mask-requires : goal.of_places-mask-requires
of_places-mask-requires c = let arrays : BookArrays c.args.book = record { starts = search rules; stands = search rules; requests = search rules; driven = search rules } in
    stands_in_table arrays (book_sound (sym c.in_ok-test.ensures))

pub returns : goal.returns
returns c = let arrays : BookArrays c.args.book = record { starts = search rules; stands = search rules; requests = search rules; driven = search rules } in
    occupancy_told _ _ _ arrays (sym c.in_ok-test.ensures) _ c.of_places-mask.ensures

pub shared_ref_as_front-of_places : goal.shared_ref_as_front-of_places
shared_ref_as_front-of_places c = (book_sound (sym c.in_ok-test.ensures)).counts.cranes
