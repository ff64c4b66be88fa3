-- The net costs of a book's cranes: what the search finds tells w and the drive of each, and the list that is told has them, signed. Assumes
-- nothing.
use Prim.Native.Nat.{ℕ, ◌<◌}
use mathlib.Core.List.{List, [], ◌∷◌, ◌++◌}
use mathlib.Core.Path.{◌≡◌}
use lib.IntN.{ℤ, pos, ◌-ℤ◌}
use lib.ListN.{length, set, drop, replicate}
use native.Mathlib.Nat.{le_trans}
use native.Mathlib.Omega.{arith}
use Rattle.base.specs.Lists.{up_to}
use Rattle.base.proofs.Lists.{drop-replicate, padded-same}
use Rattle.base.proofs.Signed.{difference_same}
use Rattle.road.specs.Table.{Table, metres_of, entry}
use Rattle.dayfile.specs.Day.{most_cranes}
use Rattle.workfunction.specs.Choice.{moved, net_cost}
use Rattle.workfunction.specs.Movement.{work}
use Rattle.workfunction.specs.Plan.{stops}
use Rattle.book.specs.declared.Book.{Book}
use Rattle.book.specs.Book.{most_stops, starts_of, stands_of, requests_of, stops_of, follower, BookArrays}
use Rattle.book.proofs.Sound.{Fits, starts-long, requests_long, stops-long, sound_fits}
use Rattle.dispatch.specs.Insertion.{Found, Kept, BookNetted}
use Rattle.dispatch.specs.Legs.{leg_at, StopAdded}
use Rattle.dispatch.specs.NetCosts.{NetList, nets_by_crane}
use Rattle.dispatch.specs.Search.{at, net_base}
use Rattle.dispatch.proofs.Answered.{kept_few, kept_most, kept_present, kept_netted}
use Rattle.dispatch.proofs.Called.{Called}
use Rattle.dispatch.proofs.Roads.{sound_roads}
use Rattle.dispatch.proofs.insert.Laws.{ends_low}

module _ {book : Book} {n : ℕ} {t : Table} {r : ℕ} (arrays : BookArrays book) (called : Called book n t r) where
  fits : Fits book
  fits = sound_fits arrays called.sound

  -- the call follows the book's stops
  pub call_last : {costs longer : List ℕ} → StopAdded (entry (metres_of t)) (stops_of book) r costs longer
      → StopAdded (entry (metres_of t)) (stops (starts_of book) (requests_of book)) r costs longer
  call_last added = rw (stops-long fits) added

  -- what the search delivers of a book, over the legs with the call
  pub book_netted : {costs longer plan nets : List ℕ} {total parent rank before : ℕ → ℕ}
      → Kept n (metres_of t) (starts_of book) (requests_of book) (stands_of book) book.plan book.weights costs
      → StopAdded (entry (metres_of t)) (stops_of book) r costs longer
      → plan ≡ set book.plan (stops_of book) (stops_of book)
      → Found book.cranes (stops_of book) (follower plan) (leg_at longer) total parent rank before (at nets)
      → BookNetted book n t r nets longer
  book_netted {nets = nets} {total = total} {parent} {rank} {before} kept added e found =
      let roads = sound_roads called.sound in
      let longer = call_last added in
      let few : stops (starts_of book) (requests_of book) < most_stops = kept_few kept (rw (requests_long fits) called.space) in
      let long : stops (starts_of book) (requests_of book) < length book.plan = le_trans few kept.plan_long in
      let most = rw (stops-long fits) at (kept_most roads kept few long called.on longer) in
      record {
        netted =
            kept_netted roads kept few long called.on longer {total = total} {parent = parent} {rank = rank} {before = before} {net_end = at nets}
            (rw (starts-long fits, requests_long fits, ← e) found);
        present = rw (stops-long fits) at (kept_present roads kept few long called.on longer);
        most = omega arith;
        low = ends_low found;
        costed = added.costed;
      }

  -- the list: the signed net cost of each crane is w once it is moved less w of the stands
  pub nets-told : {nets costs : List ℕ} {empty list : List ℤ} → BookNetted book n t r nets costs
      → list ≡ up_to book.cranes (λ e. pos (at nets e) -ℤ pos net_base) ++ drop book.cranes empty → empty ≡ replicate most_cranes (pos 0)
      → ◌≡◌ {A = NetList} (record { number = 0; nets = list }) (record { number = 0; nets = nets_by_crane book n t r })
  unfolding net_cost
  nets-told {nets} told e zeros =
      let signed : ℕ → ℤ = λ s. pos (at nets s) -ℤ pos net_base in
      let net = net_cost (metres_of t) n (starts_of book) (requests_of book) (stands_of book) r in
      let same = padded-same most_cranes signed net (pos 0) (λ i. book.cranes) each in
      rw (e, zeros, drop-replicate book.cranes most_cranes (pos 0)) (λ i. record { number = 0; nets = same i })
    where
      each : (s : ℕ) → s < book.cranes → pos (at nets s) -ℤ pos net_base ≡ net_cost (metres_of t) n (starts_of book) (requests_of book) (stands_of book) r s
      each s h =
          let works = told.netted.works s (rw (starts-long fits) h) in
          difference_same (at nets s) net_base (work (metres_of t) n (starts_of book) (requests_of book ++ (r ∷ [])) (moved (stands_of book) r s))
          (work (metres_of t) n (starts_of book) (requests_of book) (stands_of book)) (omega arith)
