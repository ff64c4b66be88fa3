-- Calls served one after another: each by the crane chosen at the stands then, and the least after it is w of the calls so far at
-- the stands after it. A call raises the least by the drive to it at the most. Assumes nothing.
use Prim.Native.Nat.{ℕ, zero, suc, ◌+◌, ◌*◌, ◌<◌, ◌≤◌}
use mathlib.Core.List.{List, [], ◌∷◌, ◌++◌, append-nil, append_assoc, Memᴰ}
use mathlib.Core.Path.{◌≡◌, refl, ap, subst, ◌∙◌}
use lib.IntN.{pos}
use lib.ListN.{length, get_or, take}
use lib.Signed.{◌≤ℤ◌}
use native.Mathlib.Nat.{add-zero, not-suc-le-zero, le_of_suc-le-suc, one-mul, suc-add, suc-mul}
use native.Mathlib.Omega.{arith}
use Rattle.base.specs.Metric.{Metric}
use Rattle.base.proofs.Signed.{difference_le}
use Rattle.workfunction.specs.Lists.{sum_below}
use Rattle.workfunction.specs.Position.{Position}
use Rattle.workfunction.specs.Movement.{Instance, work}
use Rattle.workfunction.specs.Choice.{moved, drive, net_cost, choice}
use Rattle.workfunction.specs.Serving.{Served, served_by, served, serve, stands_after}
use Rattle.workfunction.proofs.Choice.{choice_below}
use Rattle.workfunction.proofs.Movement.{work_on, work-served, instance_then}
use Rattle.workfunction.proofs.Position.{distance-moved, position_set}
use Rattle.workfunction.proofs.Sums.{entry_in, set_in, sum_first}

module _ (d : ℕ → ℕ → ℕ) (n : ℕ) (starts : List ℕ) (none : Served) where
  pub serve-at : (calls stands rs : List ℕ) (i : ℕ) → i < length rs
      → get_or (serve d n starts calls stands rs) i none
      ≡ served d n starts (calls ++ take i rs) (stands_after d n starts calls stands (take i rs)) (get_or rs i 0)
  unfolding serve stands_after
  serve-at calls stands [] i h = absurd (not-suc-le-zero h)
  serve-at calls stands (r ∷ rs) zero h = rw append-nil
  serve-at calls stands (r ∷ rs) (suc i) h =
      serve-at (calls ++ (r ∷ [])) (moved stands r (choice d n starts calls stands r)) rs i (le_of_suc-le-suc h)
      ∙ rw (append_assoc calls (r ∷ []) (take i rs))

  pub serve_least : (calls stands rs : List ℕ) (i : ℕ) → i < length rs
      → (get_or (serve d n starts calls stands rs) i none).least
      ≡ work d n starts (calls ++ take (suc i) rs) (stands_after d n starts calls stands (take (suc i) rs))
  unfolding served_by serve stands_after
  serve_least calls stands [] i h = absurd (not-suc-le-zero h)
  serve_least calls stands (r ∷ rs) zero h = refl
  serve_least calls stands (r ∷ rs) (suc i) h =
      serve_least (calls ++ (r ∷ [])) (moved stands r (choice d n starts calls stands r)) rs i (le_of_suc-le-suc h)
      ∙ rw (append_assoc calls (r ∷ []) (take (suc i) rs))

module _ (d : ℕ → ℕ → ℕ) (n : ℕ) (starts : List ℕ) where
  pub serve-long : (calls stands rs : List ℕ) → length (serve d n starts calls stands rs) ≡ length rs
  unfolding serve
  serve-long calls stands [] = refl
  serve-long calls stands (r ∷ rs) = ap suc (serve-long (calls ++ (r ∷ [])) (moved stands r (choice d n starts calls stands r)) rs)

  -- the stands once one more call is served
  pub stands_then_lem : (calls stands rs : List ℕ) (r : ℕ) → stands_after d n starts calls stands (rs ++ (r ∷ []))
      ≡ moved (stands_after d n starts calls stands rs) r (choice d n starts (calls ++ rs) (stands_after d n starts calls stands rs) r)
  unfolding stands_after
  stands_then_lem calls stands [] r = rw append-nil
  stands_then_lem calls stands (q ∷ rs) r =
      stands_then_lem (calls ++ (q ∷ [])) (moved stands q (choice d n starts calls stands q)) rs r ∙ rw (append_assoc calls (q ∷ []) rs)

  -- and its figures after those of the calls before it
  pub serve_then : (calls stands rs : List ℕ) (r : ℕ) → serve d n starts calls stands (rs ++ (r ∷ []))
      ≡ serve d n starts calls stands rs ++ (served d n starts (calls ++ rs) (stands_after d n starts calls stands rs) r ∷ [])
  unfolding serve stands_after
  serve_then calls stands [] r = rw append-nil
  serve_then calls stands (q ∷ rs) r =
      ap (λ (l : List Served). served d n starts calls stands q ∷ l)
      (serve_then (calls ++ (q ∷ [])) (moved stands q (choice d n starts calls stands q)) rs r ∙ rw (append_assoc calls (q ∷ []) rs))

-- the stands after some calls are a position
pub stands_placed : {n k : ℕ} (d : ℕ → ℕ → ℕ) (starts calls stands rs : List ℕ) → Position n k stands → ((r : ℕ) → Memᴰ r rs → r < n)
    → Position n k (stands_after d n starts calls stands rs)
unfolding stands_after
stands_placed d starts calls stands [] standing asked = standing
stands_placed {n} d starts calls stands (r ∷ rs) standing asked =
    let s = choice d n starts calls stands r in
    stands_placed d starts (calls ++ (r ∷ [])) (moved stands r s) rs (position_set stands s r (asked r (Memᴰ.head refl)) standing)
    (λ q m. asked q (Memᴰ.tail m))

-- ---- how large the figures become

-- the figures of a call: one of k cranes, a drive no longer than the longest, and a least of no more than most
pub record Bounded (k longest most : ℕ) (s : Served) : Type 0 where
  pub crane : s.crane < k
  pub metres : s.metres ≤ longest
  pub least : s.least ≤ most

module _ {n : ℕ} {d : ℕ → ℕ → ℕ} (laws : Metric n d) {starts : List ℕ} where
  -- one call more raises the least by the drive of the crane sent at the most, whichever it is
  pub work_then_lem : {calls stands : List ℕ} {r : ℕ} → Instance n starts calls → Position n (length starts) stands → r < n → (s : ℕ)
      → s < length stands → work d n starts (calls ++ (r ∷ [])) (moved stands r s) ≤ work d n starts calls stands + drive d stands r s
  unfolding drive
  work_then_lem {stands = stands} {r} day standing asked s lt =
      let there : Position n (length starts) (moved stands r s) = position_set stands s r asked standing in
      let served = work-served laws day asked (there, set_in stands s r lt) in
      let on = work_on d day laws standing there in
      let way = distance-moved laws stands s r standing lt asked in
      omega arith

  -- w at the stands after some calls is no more than before them and the sum of the drives
  pub work-driven : (none : Served) (calls stands rs : List ℕ) → Instance n starts calls → Position n (length starts) stands
      → ((r : ℕ) → Memᴰ r rs → r < n)
      → work d n starts (calls ++ rs) (stands_after d n starts calls stands rs)
      ≤ work d n starts calls stands + sum_below (length rs) (λ i. (get_or (serve d n starts calls stands rs) i none).metres)
  unfolding served_by serve stands_after sum_below
  work-driven none calls stands [] day standing asked = rw (append-nil calls) (omega arith)
  work-driven none calls stands (r ∷ rs) day standing asked =
      let here : r < n = asked r (Memᴰ.head refl) in
      let s = choice d n starts calls stands r in
      let lt = choice_below laws day standing here in
      let rest = work-driven none (calls ++ (r ∷ [])) (moved stands r s) rs (instance_then day here) (position_set stands s r here standing)
      (λ q m. asked q (Memᴰ.tail m))
      in
      let more = work_then_lem day standing here s lt in
      let sum = sum_first (length rs) (λ i. (get_or (serve d n starts calls stands (r ∷ rs)) i none).metres) in
      rw sum (omega (arith, rw (append_assoc calls (r ∷ []) rs) at rest))

  -- so no net cost is above the crane's drive
  pub net_cost_most : {calls stands : List ℕ} {r : ℕ} → Instance n starts calls → Position n (length starts) stands → r < n → (s : ℕ)
      → s < length stands → net_cost d n starts calls stands r s ≤ℤ pos (drive d stands r s)
  unfolding net_cost
  net_cost_most {calls} {stands} {r} day standing asked s lt =
      let more = work_then_lem day standing asked s lt in
      let after = work d n starts (calls ++ (r ∷ [])) (moved stands r s) in
      let low = difference_le after (work d n starts calls stands) (drive d stands r s) 0 (omega arith) in
      subst (λ (m : ℕ). net_cost d n starts calls stands r s ≤ℤ pos m) (add-zero (drive d stands r s)) low

  module _ {longest : ℕ} (short : (u v : ℕ) → u < n → v < n → d u v ≤ longest) where
    -- the call after calls whose least is w
    served_bounded : {calls stands : List ℕ} {r : ℕ} → Instance n starts calls → Position n (length starts) stands → r < n
        → Bounded (length starts) longest (work d n starts calls stands + longest) (served d n starts calls stands r)
    unfolding served_by drive
    served_bounded {calls} {stands} {r} day standing asked =
        let s = choice d n starts calls stands r in
        let lt = choice_below laws day standing asked in
        let drives : drive d stands r s ≤ longest = short _ r (standing.placed (entry_in stands s lt)) asked in
        let more = work_then_lem day standing asked s lt in
        record { crane = rw (← standing.cranes) lt; metres = drives; least = omega arith }

    pub serve_bounded : (none : Served) (calls stands rs : List ℕ) → Instance n starts calls → Position n (length starts) stands
        → ((r : ℕ) → Memᴰ r rs → r < n) → (i : ℕ) → i < length rs
        → Bounded (length starts) longest (work d n starts calls stands + (i + 1) * longest) (get_or (serve d n starts calls stands rs) i none)
    unfolding served_by serve
    serve_bounded none calls stands [] day standing asked i h = absurd (not-suc-le-zero h)
    serve_bounded none calls stands (r ∷ rs) day standing asked zero h =
        let one : (0 + 1) * longest ≡ longest = one-mul longest in
        rw one (served_bounded day standing (asked r (Memᴰ.head refl)))
    serve_bounded none calls stands (r ∷ rs) day standing asked (suc i) h =
        let here : r < n = asked r (Memᴰ.head refl) in
        let first = served_bounded day standing here in
        let s = choice d n starts calls stands r in
        let rest = serve_bounded none (calls ++ (r ∷ [])) (moved stands r s) rs (instance_then day here) (position_set stands s r here standing)
        (λ q m. asked q (Memᴰ.tail m)) i (le_of_suc-le-suc h)
        in
        let sum : (suc i + 1) * longest ≡ (i + 1) * longest + longest = rw (suc-add i 1) (suc-mul (i + 1) longest) in
        record { crane = rest.crane; metres = rest.metres; least = omega (arith, first.least, rest.least) }
