-- A quote by the net costs of a book's cranes: the least end is the crane that the choice sends. Assumes nothing.
use Prim.Native.Nat.{ℕ, ◌+◌, ◌-◌, ◌*◌, ◌<◌, ◌≤◌}
use mathlib.Core.List.{List, [], ◌∷◌, ◌++◌}
use mathlib.Core.Path.{◌≡◌, ap, ◌∙◌}
use lib.ListN.{length}
use native.Mathlib.Omega.{arith}
use Rattle.road.specs.Table.{Table, most_metres, metres_of}
use Rattle.workfunction.specs.Choice.{moved, drive, choice}
use Rattle.workfunction.specs.Movement.{work}
use Rattle.workfunction.specs.Plan.{plan_cost}
use Rattle.workfunction.specs.Serving.{Served, served_by}
use Rattle.workfunction.proofs.Choice.{choice_below}
use Rattle.book.specs.declared.Book.{Book}
use Rattle.book.specs.Book.{most_stops, starts_of, stands_of, requests_of, stops_of, follower, BookArrays}
use Rattle.book.proofs.Sound.{Fits, starts-long, requests_long, stops-long, sound_fits, sound_metric, sound_instance, sound_standing}
use Rattle.dispatch.specs.Insertion.{least_end, BookNetted}
use Rattle.dispatch.specs.Legs.{leg_at}
use Rattle.dispatch.specs.Quote.{Quoted, figures_of}
use Rattle.dispatch.specs.Search.{at, net_base}
use Rattle.dispatch.proofs.Called.{Called}
use Rattle.dispatch.proofs.Insertion.{netted_choice}

module _ {book : Book} {n : ℕ} {t : Table} {r : ℕ} (arrays : BookArrays book) (called : Called book n t r) where
  fits : Fits book
  fits = sound_fits arrays called.sound

  -- the cost of the kept plan and the net cost of a crane together: not below the base, and not far above it
  pub sum-within : {nets costs : List ℕ} → BookNetted book n t r nets costs → (e : ℕ) → e < book.cranes
      → (net_base ≤ plan_cost (stops_of book) (leg_at costs) (follower book.plan) + at nets e)
      × (plan_cost (stops_of book) (leg_at costs) (follower book.plan) + at nets e ≤ net_base + (most_stops + 1) * most_metres)
  sum-within told e h =
      let works = told.netted.works e (rw (starts-long fits) h) in
      let present = told.present in
      (omega arith, omega (arith, told.most, told.low e h))

  -- the figures of the least end
  pub quote_told : {nets costs : List ℕ} {crane metres least : ℕ} → BookNetted book n t r nets costs
      → crane ≡ least_end book.cranes (stops_of book) (at nets) (leg_at costs)
      → metres ≡ leg_at costs (stops_of book) crane
      → least ≡ plan_cost (stops_of book) (leg_at costs) (follower book.plan) + at nets crane - net_base
      → ◌≡◌ {A = Quoted} (record { number = 0; figures = record { crane = crane; metres = metres; least = least } })
      (record { number = 0; figures = figures_of book n t r })
  unfolding served_by
  quote_told {costs = costs} {crane} {metres} {least} told e way sum =
      let day = sound_instance arrays called.sound in
      let standing = sound_standing arrays called.sound in
      let starts = starts_of book in
      let sent : crane ≡ choice (metres_of t) n starts (requests_of book) (stands_of book) r =
      e ∙ rw (starts-long fits, requests_long fits) at (netted_choice day standing told.netted)
      in
      let below : crane < length starts = rw sent (rw standing.cranes at (choice_below (sound_metric called.sound) day standing called.on)) in
      let drives : metres ≡ drive (metres_of t) (stands_of book) r crane = way ∙ rw (stops-long fits) at (told.netted.ways crane below) in
      let works : least ≡ work (metres_of t) n starts (requests_of book ++ (r ∷ [])) (moved (stands_of book) r crane) =
      let w = told.netted.works crane below in let present = told.present in omega arith
      in
      let figures : ◌≡◌ {A = Served} (record { crane = crane; metres = metres; least = least }) (figures_of book n t r) =
      rw (drives, works) (ap (λ (s : ℕ). served_by (metres_of t) n starts s (requests_of book) (stands_of book) r) sent)
      in
      λ i. record { number = 0; figures = figures i }
