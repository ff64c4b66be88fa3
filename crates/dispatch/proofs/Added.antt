-- What a call adds to a book: of the book after it the starts, the calls, the stands and the metres, whatever its plan and its weights.
-- Assumes nothing.
use Prim.Native.Nat.{ℕ, ◌+◌, ◌<◌}
use mathlib.Core.List.{List, [], ◌∷◌, ◌++◌}
use mathlib.Core.Path.{◌≡◌, refl, sym, ap, ◌∙◌}
use lib.IntN.{ℤ}
use lib.ListN.{length, get_or, set, drop, length-set, take-append-drop}
use lib.Seq.{set-append_left, take-set-lt, take-suc-set, get_or-take}
use native.Mathlib.Numerals.{add-one}
use native.Mathlib.Omega.{arith}
use Rattle.base.proofs.Lists.{length-padded}
use Rattle.road.specs.Table.{Table}
use Rattle.dayfile.specs.Day.{most_cranes, most_calls}
use Rattle.workfunction.specs.Choice.{moved}
use Rattle.book.specs.declared.Book.{Book}
use Rattle.book.specs.Book.{starts_of, stands_of, requests_of, driven_of, BookArrays, SameBook}
use Rattle.book.proofs.Sound.{Fits, fit, stands_long, sound_fits}
use Rattle.dispatch.specs.Commit.{tidied, book_after}
use Rattle.dispatch.proofs.Called.{Called}
use Rattle.dispatch.proofs.tidy.Laws.{tidy_same}

-- what a call adds to a book: crane s stands at r, which is the last call, and has driven so many metres more
pub record CallAdded (book : Book) (s r metres : ℕ) (next : Book) : Type 0 where
  pub cranes : next.cranes ≡ book.cranes
  pub calls : next.calls ≡ book.calls + 1
  pub starts : starts_of next ≡ starts_of book
  pub stands : stands_of next ≡ moved (stands_of book) r s
  pub requests : requests_of next ≡ requests_of book ++ (r ∷ [])
  pub driven : driven_of next ≡ set (driven_of book) s (get_or (driven_of book) s 0 + metres)

module _ {book : Book} (s r metres : ℕ) (plan : List ℕ) (weights : List ℤ) (fits : Fits book) (sent : s < book.cranes) where
  -- the stands within the count, and those past it
  pub stands_split : moved (stands_of book) r s ++ drop book.cranes book.stands ≡ moved book.stands r s
  stands_split =
      sym (set-append_left (stands_of book) (drop book.cranes book.stands) s r (rw (stands_long fits) sent))
      ∙ ap (λ (l : List ℕ). set l s r) (take-append-drop book.cranes book.stands)

  pub after_added : book.calls < length book.requests → CallAdded book s r metres (book_after book s r metres plan weights)
  unfolding book_after
  after_added room = record {
    cranes = refl;
    calls = refl;
    starts = refl;
    stands = take-set-lt book.cranes book.stands s r sent;
    requests = rw (add-one book.calls) (take-suc-set book.requests book.calls r room);
    driven = take-set-lt book.cranes book.driven s _ sent ∙ rw (get_or-take book.cranes book.driven s 0 sent);
  }

  pub after_fits : book.calls < length book.requests → Fits (book_after book s r metres plan weights)
  unfolding book_after
  after_fits room = record {
    starts = fits.starts;
    stands = simp length-set fits.stands;
    requests = simp length-set (omega arith);
    driven = simp length-set fits.driven;
  }

-- the book after an accepted call, with 0 past its counts
module _ {book : Book} (arrays : BookArrays book) {n : ℕ} {t : Table} {r s : ℕ} (called : Called book n t r) (sent : s < book.cranes)
    (metres : ℕ) (plan : List ℕ) (weights : List ℤ) where
  same : SameBook (tidied book) book
  same = tidy_same book refl (sound_fits arrays called.sound)

  tidied_arrays : BookArrays (tidied book)
  unfolding tidied
  tidied_arrays =
      let k = called.sound.counts in
      record {
        starts = length-padded most_cranes book.cranes _ 0 k.cranes;
        stands = length-padded most_cranes book.cranes _ 0 k.cranes;
        requests = length-padded most_calls book.calls _ 0 k.calls;
        driven = length-padded most_cranes book.cranes _ 0 k.cranes;
      }

  pub next_arrays : BookArrays (book_after (tidied book) s r metres plan weights)
  unfolding book_after
  next_arrays = record {
    starts = tidied_arrays.starts;
    stands = length-set (tidied book).stands s r ∙ tidied_arrays.stands;
    requests = length-set (tidied book).requests (tidied book).calls r ∙ tidied_arrays.requests;
    driven = length-set (tidied book).driven s _ ∙ tidied_arrays.driven;
  }

  pub next_added : CallAdded book s r metres (book_after (tidied book) s r metres plan weights)
  next_added =
      let k = called.sound.counts in
      let fits = fit tidied_arrays (rw same.cranes k.cranes) (rw same.calls k.calls) in
      let added = after_added s r metres plan weights fits (rw same.cranes sent) (rw (same.calls, tidied_arrays.requests) called.space) in
      record {
        cranes = added.cranes ∙ same.cranes;
        calls = added.calls ∙ rw same.calls;
        starts = added.starts ∙ same.starts;
        stands = added.stands ∙ rw same.stands;
        requests = added.requests ∙ rw same.requests;
        driven = added.driven ∙ rw same.driven;
      }
