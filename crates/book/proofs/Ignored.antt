-- "Entries past the counts .. are ignored on the way in": books that are the same are tested alike, and days that are the same are
-- opened alike. Assumes nothing.
use Prim.Native.Nat.{ℕ, ◌<◌}
use mathlib.Core.Path.{◌≡◌, refl, ap}
use lib.IntN.{pos}
use lib.ListN.{replicate}
use Rattle.base.specs.Lists.{padded}
use Rattle.base.specs.Numbers.{unless}
use Rattle.base.proofs.Lists.{kept_same}
use Rattle.base.proofs.Numbers.{unless-zero, same_tests}
use Rattle.base.proofs.Tests.{below_same}
use Rattle.road.specs.Table.{Table, triangle_refusal}
use Rattle.dayfile.specs.declared.Day.{Day}
use Rattle.dayfile.specs.Day.{most_cranes, most_calls, stops_refusal, SameDay}
use Rattle.dayfile.proofs.Ignored.{same_placed, same-refusal}
use Rattle.workfunction.specs.Plan.{follows, followers_rule, once_rule, plan_rule}
use Rattle.workfunction.proofs.Sums.{sum_same}
use Rattle.book.specs.declared.Book.{Book}
use Rattle.book.specs.Book.{most_stops, stands_of, stops_of, SameBook, book_day, book_refusal, fresh_book, fresh_of}
use Rattle.book.proofs.Vouching.{same_weights}

-- followers that agree below n with others
pub same_plan : (k n : ℕ) (f g : ℕ → ℕ) → ((p : ℕ) → p < n → f p ≡ g p) → plan_rule k n f ≡ plan_rule k n g
unfolding plan_rule followers_rule once_rule follows
same_plan k n f g same =
    let followers : followers_rule k n f ≡ followers_rule k n g = below_same _ _ n (λ p h. rw (same p h)) in
    let once : once_rule n f ≡ once_rule n g = below_same _ _ n (λ b l. rw (sum_same n (follows f b) (follows g b) (λ p h. rw (same p h)))) in
    rw (followers, once)

-- ---- a book

module _ (a b : Book) (n : ℕ) (t : Table) (books : SameBook a b) where
  -- as a day
  days : SameDay (book_day a n) (book_day b n)
  days = record { places = refl; cranes = books.cranes; calls = books.calls; starts = books.starts; requests = books.requests }

  pub past_counts_ignored : book_refusal a n t ≡ book_refusal b n t
  unfolding book_refusal
  past_counts_ignored =
      same_tests _ _ _ _ (same_placed (book_day a n) (book_day b n) t days) (λ c.
      rw (books.starts, books.requests, books.stands, books.driven, books.cranes, books.calls)
      (same_tests (stops_refusal n (stands_of b)) _ _ _ refl (λ h.
      same_tests (triangle_refusal n t) _ _ _ refl (λ w.
      same_tests _ _ _ _ (ap (λ r. unless r 9) (same_plan b.cranes (stops_of b) _ _ books.plan)) (λ p.
      same_tests _ _ _ _ (same_weights b.cranes (stops_of b) a.plan a.weights _ _ b.plan b.weights (unless-zero _ 8 p) books.plan books.weights
      (λ q f l m. refl)) (λ v. refl))))))

-- ---- a day

module _ (a b : Day) (t : Table) (days : SameDay a b) where
  same_fresh : fresh_book a.cranes a.starts ≡ fresh_book b.cranes b.starts
  unfolding fresh_book
  same_fresh =
      let starts = kept_same most_cranes a.starts b.starts 0 days.cranes days.starts in
      λ i. record {
        cranes = days.cranes i;
        calls = 0;
        starts = starts i;
        stands = starts i;
        requests = replicate most_calls 0;
        plan = padded most_stops (days.cranes i) (λ j. j) 0;
        weights = replicate most_stops (pos 0);
        driven = replicate most_cranes 0;
      }

  -- the fresh book
  pub same-opened : fresh_of a t ≡ fresh_of b t
  unfolding fresh_of
  same-opened = rw (same-refusal a b t days, same_fresh)
