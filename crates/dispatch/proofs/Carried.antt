-- A sound book is a day under way, and the book after a crane goes to a call is sound again, with 0 past its counts.
-- Assumes nothing.
use Prim.Native.Nat.{ℕ, ◌+◌, ◌*◌, ◌<◌, ◌≤◌}
use mathlib.Core.Bool.{true}
use mathlib.Core.List.{List, ◌++◌, Memᴰ}
use mathlib.Core.Path.{◌≡◌, ap, ◌∙◌}
use borrow.Author.Tests.{lt-ltb}
use lib.IntN.{ℤ, pos}
use lib.ListN.{length, get_or, set, drop}
use lib.Seq.{get_or-take}
use native.Mathlib.Decide.{dec_lt}
use native.Mathlib.Nat.{le_trans}
use native.Mathlib.Omega.{arith}
use Rattle.std.specs.Prelude.{Option, Some}
use Rattle.base.proofs.Tests.{below_all}
use Rattle.road.specs.Table.{Table, most_places, most_metres, metres_of, entry}
use Rattle.road.proofs.Surveyed.{Surveyed}
use Rattle.dayfile.specs.Day.{most_calls, stops_rule}
use Rattle.dayfile.proofs.Limits.{CountsTested, stop_below}
use Rattle.workfunction.specs.Choice.{moved, drive}
use Rattle.workfunction.specs.Serving.{Served, served_by}
use Rattle.workfunction.proofs.Stops.{stop_placed}
use Rattle.workfunction.proofs.Sums.{entry_in}
use Rattle.book.specs.declared.Book.{Book}
use Rattle.book.specs.Book.{most_stops, starts_of, stands_of, requests_of, driven_of, stops_of, follower, weight, driven_rule, BookArrays, SameBook, book_refusal}
use Rattle.dispatch.specs.Commit.{tidied, book_after, drive_of, least_after, Committed, Next}
use Rattle.dispatch.specs.Insertion.{Kept, Answered, Unmoved}
use Rattle.dispatch.specs.Legs.{Costed, LegTable, BookGiven}
use Rattle.book.proofs.Metres.{driven-at, driven_more}
use Rattle.book.proofs.Sound.{Fits, starts-long, stands_long, requests_long, driven-long, stops-long, Sound, sound_book, sound_fits, sound_standing}
use Rattle.dispatch.proofs.LegTable.{table_over}
use Rattle.dispatch.proofs.Added.{stands_split, after_added, after_fits}
use Rattle.dispatch.proofs.Roads.{sound_roads, sound_asked}

module _ {book : Book} {n : ℕ} {t : Table} (arrays : BookArrays book) (s : Sound book n t) where
  -- its table can be filled
  pub sound_given : {costs : List ℕ} → Costed costs → BookGiven book costs
  sound_given costed = record {
    cranes = s.counts.cranes;
    calls = s.counts.calls;
    stood = λ i h. le_trans (stop_below n (stands_of book) s.stands i h) s.counts.places;
    called = λ i h. le_trans (stop_below n (requests_of book) s.requests i h) s.counts.places;
    costed = costed;
  }

  -- and what is read off its roads are its metres
  pub sound_table : {costs : List ℕ} → LegTable most_places (entry (metres_of t)) (starts_of book) (requests_of book) (stands_of book) costs
      → LegTable n (metres_of t) (starts_of book) (requests_of book) (stands_of book) costs
  sound_table table =
      table_over table s.counts.places (λ p x h l. (sound_roads s).legible.reads _ x (stop_placed (sound_asked arrays s).day p h) l)

  -- a sound book with the table of what is read off its roads
  pub sound_kept : {costs : List ℕ} → most_stops ≤ length book.plan → most_stops ≤ length book.weights
      → LegTable most_places (entry (metres_of t)) (starts_of book) (requests_of book) (stands_of book) costs
      → Kept n (metres_of t) (starts_of book) (requests_of book) (stands_of book) book.plan book.weights costs
  sound_kept plan weights table = record {
    asked = sound_asked arrays s;
    standing = sound_standing arrays s;
    certified =
        rw (starts-long (sound_fits arrays s), requests_long (sound_fits arrays s)) (record { planned = s.plan; ranged = s.range; vouched = s.vouched });
    table = sound_table table;
    plan_long = plan;
    weights_long = weights;
  }

-- places of the table keep their rule
rule_of : (n : ℕ) (l : List ℕ) → ((r : ℕ) → Memᴰ r l → r < n) → stops_rule n l ≡ true
rule_of n l placed = below_all _ (length l) (λ i h. lt-ltb (get_or l i 0) n (placed _ (entry_in l i h)))

-- a day under way is that of a sound book
kept_sound : {book : Book} {n : ℕ} {t : Table} {costs : List ℕ} → Fits book → CountsTested n (length t) book.cranes book.calls → Surveyed n t
    → Kept n (metres_of t) (starts_of book) (requests_of book) (stands_of book) book.plan book.weights costs
    → driven_rule (most_metres * book.calls) (driven_of book) ≡ true → Sound book n t
kept_sound {n = n} fits counts surveyed k driven = let c = rw (starts-long fits, requests_long fits) at k.certified in record {
  counts = counts;
  surveyed = surveyed;
  starts = rule_of n _ (λ r m. k.asked.day.started.placed m);
  requests = rule_of n _ (λ r m. k.asked.day.called m);
  stands = rule_of n _ (λ r m. k.standing.placed m);
  plan = c.planned;
  range = c.ranged;
  vouched = c.vouched;
  driven = driven;
}

module _ {book : Book} {n : ℕ} {t : Table} (arrays : BookArrays book) (s : Sound book n t) {r : ℕ} (on : r < n) (space : book.calls < most_calls)
    {pick : Option ℕ} {told : Served} {stands plan : List ℕ} {weights : List ℤ} {costs : List ℕ}
    (answered : Answered n (metres_of t) (starts_of book) (requests_of book) (stands_of book) r pick told stands plan weights costs) where
  fits : Fits book
  fits = sound_fits arrays s

  -- the crane sent is one of the book's
  pub sent : told.crane < book.cranes
  sent = rw (stands_long fits) at answered.crane

  room : book.calls < length book.requests
  room = rw arrays.requests space

  -- the book after the call, as its parts are put together
  abbrev after : Book
  after =
      record {
        cranes = book.cranes;
        calls = book.calls + 1;
        starts = book.starts;
        stands = stands ++ drop book.cranes book.stands;
        requests = set book.requests book.calls r;
        plan = plan;
        weights = weights;
        driven = set book.driven told.crane (get_or book.driven told.crane 0 + told.metres);
      }

  is_after : after ≡ book_after book told.crane r told.metres plan weights
  unfolding book_after
  is_after =
      let there : stands ++ drop book.cranes book.stands ≡ moved book.stands r told.crane =
      rw answered.there (stands_split told.crane r told.metres plan weights fits sent)
      in
      λ i. record {
        cranes = book.cranes;
        calls = book.calls + 1;
        starts = book.starts;
        stands = there i;
        requests = set book.requests book.calls r;
        plan = plan;
        weights = weights;
        driven = set book.driven told.crane (get_or book.driven told.crane 0 + told.metres);
      }

  -- the drive is that of the crane sent, and no longer than a leg
  drive_is : told.metres ≡ drive (metres_of t) (stands_of book) r told.crane
  unfolding served_by
  drive_is = ap (λ (x : Served). x.metres) answered.figures

  drive-short : told.metres ≤ most_metres
  unfolding drive
  drive-short = rw drive_is ((sound_roads s).legible.short _ r (stop_below n (stands_of book) s.stands told.crane answered.crane) on)

  -- every crane's metres have room for the drive, where the entries past the cranes are 0
  pub driven_room : ((j : ℕ) → book.cranes ≤ j → get_or book.driven j 0 ≡ 0) → (j : ℕ)
      → get_or book.driven j 0 + told.metres ≤ most_metres * (book.calls + 1)
  driven_room none j = either (dec_lt j book.cranes)
    where
      either : Dec (j < book.cranes) → get_or book.driven j 0 + told.metres ≤ most_metres * (book.calls + 1)
      either (yes h) =
          let old : get_or (driven_of book) j 0 ≤ most_metres * book.calls =
          driven-at (most_metres * book.calls) (driven_of book) s.driven j (rw (driven-long fits) h)
          in
          omega (arith, rw (get_or-take book.cranes book.driven j 0 h) at old, drive-short)
      either (no h) = rw (none j (omega arith)) (omega (arith, drive-short))

  -- what is told of the call, where the crane is a given one
  pub committed-after : {old : Book} {crane : ℕ} → pick ≡ Some crane → book ≡ tidied old → SameBook book old
      → ◌≡◌ {A = Committed} (record { number = 0; least = told.least; book = after })
      (record { number = 0; least = least_after old n t r crane; book = book_after (tidied old) crane r (drive_of old t r crane) plan weights })
  unfolding served_by
  committed-after {old} {crane} given e same =
      let to : told.crane ≡ crane = rw given at answered.chosen in
      let least : told.least ≡ least_after old n t r crane =
      rw (← same.starts, ← same.requests, ← same.stands, ← to) (ap (λ (x : Served). x.least) answered.figures)
      in
      let way : told.metres ≡ drive_of old t r told.crane = drive_is ∙ rw same.stands in
      let book : after ≡ book_after (tidied old) crane r (drive_of old t r crane) plan weights = rw (← e, ← to, ← way) is_after in
      λ i. record { number = 0; least = least i; book = book i }

  after_sound : book_refusal (book_after book told.crane r told.metres plan weights) n t ≡ 0
  unfolding book_after
  after_sound =
      let k = s.counts in
      let counts : CountsTested n (length t) book.cranes (book.calls + 1) =
      record { place = k.place; places = k.places; legs = k.legs; crane = k.crane; cranes = k.cranes; calls = omega arith }
      in
      let added = after_added told.crane r told.metres plan weights fits sent room in
      sound_book (kept_sound {costs = costs} (after_fits told.crane r told.metres plan weights fits sent room) counts s.surveyed
      (rw (added.stands, added.requests, ← answered.there) answered.kept)
      (rw added.driven (driven_more book.calls (driven_of book) told.crane told.metres s.driven drive-short)))

  -- where the entries past the counts were 0
  pub next : Unmoved (length (starts_of book) + length (requests_of book)) book.plan book.weights plan weights
      → ((p : ℕ) → stops_of book ≤ p → follower book.plan p ≡ 0) → ((b : ℕ) → stops_of book ≤ b → weight book.weights b ≡ pos 0)
      → Next after n t
  next unmoved none light =
      let e = stops-long fits in
      record {
        sound = rw is_after after_sound;
        plan = λ p h. unmoved.followers p (rw e (omega arith)) ∙ none p (omega arith);
        weights = λ b h. unmoved.weighed b (rw e (omega arith)) ∙ light b (omega arith);
      }
