-- "Costs, choices and file bytes are those of the square": for every accepted square, what each function of the library gives over its
-- half is what is told over the square, whatever the other inputs are, refused ones included. Assumes nothing.
use Prim.Native.Nat.{ℕ, zero, suc, ◌<◌, suc-le-suc}
use mathlib.Core.Bool.{true}
use mathlib.Core.List.{List, [], ◌∷◌, ◌++◌, Memᴰ}
use mathlib.Core.Path.{◌≡◌, refl, sym, ap, ap₂, ◌∙◌}
use lib.IntN.{ℤ, pos}
use lib.ListN.{length}
use native.Mathlib.Nat.{le_of_lt, le_refl}
use Rattle.base.proofs.Lists.{up_to-same, padded-same}
use Rattle.base.proofs.Numbers.{unless-zero, then_zero, told_alike, same_tests}
use Rattle.road.specs.Table.{in_order, metres_of}
use Rattle.dayfile.specs.declared.Day.{Day}
use Rattle.dayfile.specs.Day.{most_cranes, stops_rule, stops_refusal, day_starts, day_requests, DayArrays, counts_refusal, placed_refusal, day_refusal, day_records}
use Rattle.dayfile.specs.File.{day_bytes, write_file}
use Rattle.dayfile.specs.Legs.{leg}
use Rattle.dayfile.proofs.Limits.{stop_below, Tested, day_placed, day-tested}
use Rattle.workfunction.specs.Position.{Position}
use Rattle.workfunction.proofs.Least.{plan_floor-same}
use Rattle.workfunction.proofs.Serving.{stands_placed}
use Rattle.workfunction.proofs.Same.{distance-same, work-same, floor-same, work_then-same, drive-same, net_cost-same, served-same, serve-same, stands_after-same}
use Rattle.book.specs.declared.Book.{Book}
use Rattle.book.specs.Book.{starts_of, stands_of, requests_of, stops_of, plan_refusal, book_day, book_refusal, fresh_of}
use Rattle.book.proofs.Places.{same-costs}
use Rattle.book.proofs.Sound.{placed, Sound, book_sound}
use Rattle.book.proofs.Vouching.{over_legs}
use Rattle.near.specs.Near.{near_of}
use Rattle.near.specs.Occupancy.{occupancy_of}
use Rattle.near.proofs.NearCranes.{near_alike}
use Rattle.dispatch.specs.Commit.{commit_refusal, commit_of}
use Rattle.dispatch.specs.Costs.{costs_of}
use Rattle.dispatch.specs.NetCosts.{nets_of}
use Rattle.dispatch.specs.PlanFloor.{plan_floor_of}
use Rattle.dispatch.specs.Quote.{quote_refusal, quote_of}
use Rattle.dispatch.specs.ServedDay.{home_of, served_day}
use Rattle.dispatch.proofs.Called.{Called, quote_called, commit_called}
use Rattle.dispatch.proofs.Roads.{placed_instance}
use Rattle.sheet.specs.Sheet.{sheet_rows, sheet_of}
use Rattle.half.specs.Square.{Square, square_metres, square_refusal, half_of}
use Rattle.half.specs.Told.{square_placed_refusal, square_day_refusal, square_book_refusal, square_fresh, square_costs, square_quote_refusal, square_quote, square_nets, square_commit_refusal, square_commit, square_near, square_occupancy, square_plan_floor, square_served, square_sheet, square_file}
use Rattle.half.proofs.Half.{half_distance, half_places, half_run, half_metres, square_legs, half_triangles, square_triangles}

-- places that keep their rule, as many as they are
position : (n : ℕ) (l : List ℕ) → stops_rule n l ≡ true → Position n (length l) l
position n l rule = record { cranes = refl; placed = placed n l rule }

-- metres that agree between the places below n make the same list of legs
same_order : {A : Type 0} (f g : ℕ → ℕ → A) (n : ℕ) → ((u v : ℕ) → u < n → v < n → f u v ≡ g u v) → in_order f n ≡ in_order g n
unfolding in_order
same_order f g zero same = refl
same_order {A} f g (suc n) same =
    let below : (u : ℕ) → u < n → u < suc n = λ u p. le_of_lt (suc-le-suc p) in
    ap₂ (λ (x y : List A). x ++ y) (same_order f g n (λ u v p q. same u v (below u p) (below v q)))
    (up_to-same n _ _ (λ u p. same u n (below u p) (le_refl (suc n))))

-- ---- a day

module _ (day : Day) (s : Square) (h : square_refusal day.places s ≡ 0) where
  half_placed : placed_refusal day (half_of day.places s) ≡ square_placed_refusal day s
  unfolding placed_refusal counts_refusal
  half_placed = rw (half_run day.places s h, half_metres day.places s h, half_places day.places s h, square_legs day.places s h)

  pub half_day : day_refusal day (half_of day.places s) ≡ square_day_refusal day s
  unfolding day_refusal square_day_refusal
  half_day = rw (half_placed, half_triangles day.places s h, square_triangles day.places s h)

  -- the fresh book
  pub half_fresh : fresh_of day (half_of day.places s) ≡ square_fresh day s
  unfolding fresh_of square_fresh
  half_fresh = rw half_day

  -- the bytes of its file
  half_bytes : day_bytes day (metres_of (half_of day.places s)) ≡ day_bytes day (square_metres s)
  unfolding day_records
  half_bytes =
      rw (same_order (λ u v. leg u v (metres_of (half_of day.places s) u v)) (λ u v. leg u v (square_metres s u v)) day.places
      (λ u v p q. ap (leg u v) (half_distance day.places s h u v p q)))

  pub half_file : (out : List ℕ) → write_file day (half_of day.places s) out ≡ square_file day s out
  unfolding square_file
  half_file out = rw (half_day, half_bytes)

  -- the served day
  pub half_served : served_day day (half_of day.places s) ≡ square_served day s
  unfolding served_day home_of square_served
  half_served =
      told_alike ◌≡◌ _ _ half_day
      (λ z.
      let tested : Tested day (half_of day.places s) = day-tested day (half_of day.places s) z in
      let starts = position day.places (day_starts day) tested.starts in
      let asked : (r : ℕ) → Memᴰ r (day_requests day) → r < day.places = λ r. placed day.places (day_requests day) tested.requests in
      let all = serve-same (half_distance day.places s h) starts [] starts (day_requests day) asked in
      let stands = stands_after-same (half_distance day.places s h) starts [] starts (day_requests day) asked in
      let last = stands_placed (square_metres s) (day_starts day) [] (day_starts day) (day_requests day) starts asked in
      let home = distance-same (half_distance day.places s h) last starts in
      let floor = floor-same (half_distance day.places s h) starts (day_requests day) in
      rw (all, stands, home, floor))
      (λ k. refl)

  -- its least plan that ends at the starts
  pub half_plan_floor : DayArrays day → plan_floor_of day (half_of day.places s) ≡ square_plan_floor day s
  unfolding plan_floor_of square_plan_floor
  half_plan_floor arrays =
      told_alike ◌≡◌ _ _ half_placed
      (λ z. rw (plan_floor-same (placed_instance (day_placed day (half_of day.places s) z) arrays) (half_distance day.places s h)))
      (λ k. refl)

  -- its sheet
  pub half_sheet : (out : List ℕ) → sheet_of day (half_of day.places s) out ≡ square_sheet day s out
  unfolding sheet_rows square_sheet
  half_sheet out = rw (half_day, half_served)

-- ---- a book

module _ (book : Book) (n : ℕ) (s : Square) (h : square_refusal n s ≡ 0) where
  -- the tests: 9, 10 and 13 as of the square's metres
  pub half_book : book_refusal book n (half_of n s) ≡ square_book_refusal book n s
  unfolding book_refusal square_book_refusal
  half_book =
      same_tests _ _ _ _ (half_placed (book_day book n) s h) (λ c.
      let day = day_placed (book_day book n) (half_of n s) c in
      same_tests (stops_refusal n (stands_of book)) _ _ _ refl (λ w.
      same_tests _ _ _ _ (half_triangles n s h ∙ sym (square_triangles n s h)) (λ t.
      same_tests (plan_refusal book.cranes (stops_of book) book.plan) _ _ _ refl (λ p.
      same_tests _ _ _ _ (over_legs book.cranes (stops_of book) book.plan book.weights _ _ (unless-zero _ 8 p)
      (λ q f l m. same-costs day.counts.place (starts_of book) (requests_of book) (stands_of book) day.starts day.requests (unless-zero _ 4 w)
      (metres_of (half_of n s)) (square_metres s) (half_distance n s h) q f)) (λ v. refl)))))

  -- the starts and the stands of a sound book
  module _ (sound : Sound book n (half_of n s)) where
    started : Position n (length (starts_of book)) (starts_of book)
    started = position n (starts_of book) sound.starts

    standing : Position n (length (stands_of book)) (stands_of book)
    standing = position n (stands_of book) sound.stands

  -- least and floor
  pub half_costs : costs_of book n (half_of n s) ≡ square_costs book n s
  unfolding costs_of square_costs
  half_costs =
      told_alike ◌≡◌ _ _ half_book
      (λ z.
      let sound : Sound book n (half_of n s) = book_sound z in
      let least = work-same (half_distance n s h) (started sound) (requests_of book) (standing sound) in
      let floor = floor-same (half_distance n s h) (started sound) (requests_of book) in
      rw (least, floor))
      (λ k. refl)

  -- the places that hold a crane
  pub half_occupancy : occupancy_of book n (half_of n s) ≡ square_occupancy book n s
  unfolding occupancy_of square_occupancy
  half_occupancy = rw half_book

  module _ (r : ℕ) where
    -- the cranes near a place
    pub half_near : (distance : ℕ) (out : List ℕ) → near_of book n (half_of n s) r distance out ≡ square_near book n s r distance out
    unfolding near_of square_near
    half_near distance out =
        rw half_book
        (near_alike _ _ _ distance out (λ z.
        let both = then_zero (square_book_refusal book n s) _ z in
        let sound : Sound book n (half_of n s) = book_sound (half_book ∙ both.0) in
        let on = stop_below n (r ∷ []) (unless-zero _ 4 both.1) 0 (le_refl 1) in
        up_to-same _ _ _ (λ i lt. drive-same (half_distance n s h) (started sound) (requests_of book) (standing sound) on i)))

    half_quote_number : quote_refusal book n (half_of n s) r ≡ square_quote_refusal book n s r
    half_quote_number = rw half_book

    -- the quote
    pub half_quote : quote_of book n (half_of n s) r ≡ square_quote book n s r
    unfolding quote_of square_quote
    half_quote =
        told_alike ◌≡◌ _ _ half_quote_number
        (λ z.
        let called : Called book n (half_of n s) r = quote_called z in
        rw (served-same (half_distance n s h) (started called.sound) (requests_of book) (standing called.sound) called.on))
        (λ k. refl)

    -- the net costs
    pub half_nets : nets_of book n (half_of n s) r ≡ square_nets book n s r
    unfolding nets_of square_nets
    half_nets =
        told_alike ◌≡◌ _ _ half_quote_number
        (λ z.
        let called : Called book n (half_of n s) r = quote_called z in
        let net = net_cost-same (half_distance n s h) (started called.sound) (requests_of book) (standing called.sound) called.on in
        let list = padded-same most_cranes _ _ (pos 0) refl (λ i l. net i) in
        λ i. record { number = 0; nets = list i })
        (λ k. refl)

    module _ (crane : ℕ) where
      half_commit_number : commit_refusal book n (half_of n s) r crane ≡ square_commit_refusal book n s r crane
      half_commit_number = rw half_book

      -- the commit of a crane: its least and the book after it
      pub half_commit : (plan : List ℕ) (weights : List ℤ) → commit_of book n (half_of n s) r crane plan weights ≡ square_commit book n s r crane plan weights
      unfolding commit_of square_commit
      half_commit plan weights =
          told_alike ◌≡◌ _ _ half_commit_number
          (λ z.
          let called : Called book n (half_of n s) r = (commit_called z).0 in
          let least = work_then-same (half_distance n s h) (started called.sound) (requests_of book) (standing called.sound) called.on crane in
          let way = drive-same (half_distance n s h) (started called.sound) (requests_of book) (standing called.sound) called.on crane in
          rw (least, way))
          (λ k. refl)
