-- Arrays that are filled with 0 from an index on; and a book with 0 past its counts is the same book, and so is tested alike.
-- Assumes nothing.
use Prim.Native.Nat.{ℕ, ◌-◌, ◌≤◌}
use borrow.Rule.Slice.PartMut.{put_mid}
use mathlib.Core.List.{List, [], append-nil}
use mathlib.Core.Path.{◌≡◌, refl}
use lib.IntN.{ℤ, pos}
use lib.ListN.{length, get_or, take, drop, replicate, length-drop, drop_of_length-le}
use lib.Seq.{length-take-le}
use native.Mathlib.Omega.{arith}
use Rattle.base.specs.Lists.{padded}
use Rattle.base.proofs.Lists.{take-up_to, get_or-padded, get_or-padded_past, take_kept}
use Rattle.road.specs.Table.{Table}
use Rattle.dayfile.specs.Day.{most_cranes, most_calls}
use Rattle.book.specs.declared.Book.{Book}
use Rattle.book.specs.Book.{most_stops, stops_of, follower, weight, SameBook, book_refusal}
use Rattle.dispatch.specs.Commit.{tidied}
use Rattle.book.proofs.Ignored.{past_counts_ignored}
use Rattle.book.proofs.Sound.{Fits}

-- an array of m entries that is filled with z from an index on
pub cleared : {A : Type 0} (m from : ℕ) (z : A) (old new : List A) → length old ≡ m → from ≤ m
    → new ≡ replicate (length (take (length old - from) (drop from old))) z
    → put_mid from (length old - from) old new ≡ padded m from (λ j. get_or old j z) z
cleared m from z old new long h e =
    let n : length (take (m - from) (drop from old)) ≡ m - from = length-take-le (m - from) (drop from old) (simp length-drop (omega arith)) in
    let none : drop (m - from) (drop from old) ≡ [] = drop_of_length-le (drop from old) (simp length-drop (omega arith)) in
    let filled : new ≡ replicate (length (take (m - from) (drop from old))) z = rw long at e in
    rw (long, none, append-nil, filled, n, take-up_to from old z (omega arith))

-- the book of such lists
pub tidied_by : (book : Book) {starts stands requests plan : List ℕ} {weights : List ℤ} {driven : List ℕ}
    → starts ≡ padded most_cranes book.cranes (λ j. get_or book.starts j 0) 0
    → stands ≡ padded most_cranes book.cranes (λ j. get_or book.stands j 0) 0
    → requests ≡ padded most_calls book.calls (λ i. get_or book.requests i 0) 0
    → plan ≡ padded most_stops (stops_of book) (follower book.plan) 0
    → weights ≡ padded most_stops (stops_of book) (weight book.weights) (pos 0)
    → driven ≡ padded most_cranes book.cranes (λ j. get_or book.driven j 0) 0
    → ◌≡◌ {A = Book}
    (record { cranes = book.cranes; calls = book.calls; starts = starts; stands = stands; requests = requests; plan = plan; weights = weights; driven = driven })
    (tidied book)
unfolding tidied
tidied_by book starts stands requests plan weights driven = rw (starts, stands, requests, plan, weights, driven)

module _ (book : Book) {tidy : Book} (e : tidy ≡ tidied book) where
  pub tidy_same : Fits book → SameBook tidy book
  unfolding tidied
  tidy_same fits =
      rw e
      (record {
        cranes = refl;
        calls = refl;
        starts = take_kept most_cranes book.cranes book.starts 0 fits.starts;
        stands = take_kept most_cranes book.cranes book.stands 0 fits.stands;
        requests = take_kept most_calls book.calls book.requests 0 fits.requests;
        plan = get_or-padded most_stops (stops_of book) (follower book.plan) 0 0;
        weights = get_or-padded most_stops (stops_of book) (weight book.weights) (pos 0) (pos 0);
        driven = take_kept most_cranes book.cranes book.driven 0 fits.driven;
      })

  pub tidy_refusal : Fits book → (n : ℕ) (t : Table) → book_refusal tidy n t ≡ book_refusal book n t
  tidy_refusal fits n t = past_counts_ignored tidy book n t (tidy_same fits)

  pub tidy_plan : (p : ℕ) → stops_of tidy ≤ p → follower tidy.plan p ≡ 0
  unfolding tidied
  tidy_plan = rw e (get_or-padded_past most_stops (stops_of book) (follower book.plan) 0)

  pub tidy_driven : (j : ℕ) → tidy.cranes ≤ j → get_or tidy.driven j 0 ≡ 0
  unfolding tidied
  tidy_driven = rw e (get_or-padded_past most_cranes book.cranes (λ j. get_or book.driven j 0) 0)

  pub tidy_weights : (b : ℕ) → stops_of tidy ≤ b → weight tidy.weights b ≡ pos 0
  unfolding tidied
  tidy_weights = rw e (get_or-padded_past most_stops (stops_of book) (weight book.weights) (pos 0))
