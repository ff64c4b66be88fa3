-- What is promised of the table of a date, for every number of places, two tables, window and date.
-- Assumes nothing.
use Prim.Native.Nat.{ℕ, suc, ◌+◌, ◌%◌, ◌≤◌}
use mathlib.Core.Bool.{Bool, true, false, ◌&&◌, cond, and-eq-true_iff}
use mathlib.Core.List.{[]}
use mathlib.Core.Logic.{◌⊎◌, ◌↔◌}
use mathlib.Core.Path.{◌≡◌, refl, sym, ap, ◌∙◌}
use lib.ListN.{length, drop_of_length-le}
use native.Mathlib.Nat.{le_of_eq}
use native.Mathlib.Omega.{arith}
use Rattle.std.proofs.lemmas.Grind.{common_steps}
use Rattle.std.proofs.lemmas.Bool.Decides.{nat_tests}
use Rattle.base.specs.Numbers.{unless, ◌then◌}
use Rattle.base.specs.Tests.{within}
use Rattle.base.proofs.Numbers.{then_assoc, then_zero, zeros_told}
use Rattle.road.specs.Table.{leg_count, run_refusal, legs_refusal, triangle_refusal, table_refusal}
use Rattle.road.proofs.Table.{run_accepted}
use Rattle.season.specs.declared.MonthDay.{MonthDay}
use Rattle.season.specs.declared.Window.{Window}
use Rattle.season.specs.declared.Date.{Date}
use Rattle.season.specs.Calendar.{first_year, last_year, leap_year, month_days, real_day, day_of, date_rule, calendar_refusal}
use Rattle.season.specs.Windows.{no_later, inside_of, Earlier}
use Rattle.season.specs.Season.{Lent, tables_refusal, season_refusal, empty_part, legs_on}
use Rattle.season.proofs.calendar.Laws.{real_longest}
use Rattle.season.proofs.windows.Laws.{no_later_self, no_later_both, inside_between}

-- ---- which days a window holds

module _ (window : Window) where
  abbrev first : MonthDay
  first = window.first

  abbrev last : MonthDay
  last = window.last

  -- "both inside the window"
  pub edges_inside : (inside_of window first ≡ true) × (inside_of window last ≡ true)
  unfolding inside_of no_later
  edges_inside = grind (arith, nat_tests)

  -- "equal ones hold that date alone"
  pub one_date : first ≡ last → (at : MonthDay) → (inside_of window at ≡ true) ↔ (at ≡ first)
  one_date e at = (only, λ (same : at ≡ first). ap (inside_of window) same ∙ edges_inside.0)
    where
      ordered : no_later first last ≡ true
      ordered = ap (no_later first) (sym e) ∙ no_later_self first

      only : inside_of window at ≡ true → at ≡ first
      only h =
          let both = (and-eq-true_iff (no_later first at) (no_later at last)).0 (sym (inside_between window at ordered) ∙ h) in
          no_later_both at first (ap (no_later at) e ∙ both.1) both.0

  -- a first that is no later than the last: inside are exactly the days that are neither earlier than the first nor later than the last
  pub between_the_edges : (Earlier last first → ⊥) → (at : MonthDay)
      → (inside_of window at ≡ true) ↔ ((Earlier at first → ⊥) × (Earlier last at → ⊥))
  unfolding inside_of no_later
  between_the_edges ordered at = grind (arith, nat_tests)

  -- "A first later than the last runs over the year's end": outside are exactly the days strictly between the last and the first
  pub over_the_year : Earlier last first → (at : MonthDay) → (inside_of window at ≡ false) ↔ (Earlier last at × Earlier at first)
  unfolding inside_of no_later
  over_the_year over at = grind (arith, nat_tests)

-- ---- the calendar

-- the Gregorian rule
pub leap_rule : (y : ℕ) → (leap_year y ≡ true) ↔ ((y % 4 ≡ 0) × ((y % 100 ≡ 0 → ⊥) ⊎ (y % 400 ≡ 0)))
unfolding leap_year
leap_rule y = grind (arith, nat_tests)

-- years with the same remainders are alike
leap_same : (y z : ℕ) → y % 4 ≡ z % 4 → y % 100 ≡ z % 100 → y % 400 ≡ z % 400 → leap_year y ≡ leap_year z
unfolding leap_year
leap_same y z a b c = rw (a, b, c)

-- the rule comes round in 400 years
pub leap_cycle : (y : ℕ) → leap_year (y + 400) ≡ leap_year y
leap_cycle y = leap_same (y + 400) y (omega arith) (omega arith) (omega arith)

-- 29 February is a date of the leap years among those that count, and of no other year
pub leap_day : (y : ℕ) → date_rule (record { year = y; month = 2; day = 29 }) ≡ (within first_year last_year y && leap_year y)
unfolding date_rule real_day month_days within
leap_day y = ap (λ (real : Bool). within first_year last_year y && real) (twenty_ninth (leap_year y))
  where
    twenty_ninth : (leap : Bool) → real_day leap (record { month = 2; day = 29 }) ≡ leap
    twenty_ninth true = refl
    twenty_ninth false = refl

-- the month of a real day is one of twelve
pub real_month : (leap : Bool) (at : MonthDay) → real_day leap at ≡ true → (1 ≤ at.month) × (at.month ≤ 12)
unfolding real_day month_days within
real_month leap at h = grind (arith, nat_tests, common_steps)

-- "an edge being real if a leap year has it"
pub edge_real : (date : Date) → within first_year last_year date.year ≡ true → leap_year date.year ≡ true
    → date_rule date ≡ real_day true (day_of date)
unfolding date_rule
edge_real date counts leap = rw (counts, leap)

-- every real date may be an edge
pub date_edge : (date : Date) → date_rule date ≡ true → real_day true (day_of date) ≡ true
unfolding date_rule
date_edge date h = real_longest (leap_year date.year) (day_of date)
    ((and-eq-true_iff (within first_year last_year date.year) (real_day (leap_year date.year) (day_of date))).0 h).1

-- ---- the table of a date

-- two rules under one number, and three tests, one by one before what comes after
both_rules : (a b : Bool) (k t : ℕ) → (unless (a && b) (suc k) then t) ≡ (unless a (suc k) then unless b (suc k) then t)
both_rules true b k t = refl
both_rules false b k t = refl

three_tests : (a b c t : ℕ) → ((a then b then c) then t) ≡ (a then b then c then t)
three_tests a b c t = then_assoc a (b then c) t ∙ ap (λ (s : ℕ). a then s) (then_assoc b c t)

module _ (n : ℕ) (ordinary thaw : Lent) (window : Window) (date : Date) where
  -- the number that the test of the inputs gives
  abbrev refusal : ℕ
  refusal = season_refusal n ordinary.now thaw.now window date

  -- the tests one by one: 14 for the date, then for each edge; 3, 4 and 8 for the ordinary table; 3, 4 and 8 for the thaw table
  pub season_number : refusal ≡
      (unless (date_rule date) 14 then unless (real_day true window.first) 14 then unless (real_day true window.last) 14
      then run_refusal n (length ordinary.now) then legs_refusal ordinary.now then triangle_refusal n ordinary.now
      then run_refusal n (length thaw.now) then legs_refusal thaw.now then triangle_refusal n thaw.now)
  season_number =
      let tables : ℕ = tables_refusal n ordinary.now thaw.now in
      let first = real_day true window.first in
      let last = real_day true window.last in
      both_rules (date_rule date) (first && last) 13 tables
      ∙ ap (λ (s : ℕ). unless (date_rule date) 14 then s)
      (both_rules first last 13 tables ∙ ap (λ (s : ℕ). unless first 14 then unless last 14 then s)
      (three_tests (run_refusal n (length ordinary.now)) (legs_refusal ordinary.now) (triangle_refusal n ordinary.now) (table_refusal n thaw.now)))

  -- the reference that comes back
  abbrev answer : Lent
  answer = legs_on n ordinary thaw window date

  -- "as that part itself": the one lent reference or the other
  pub legs_chosen : refusal ≡ 0 → answer ≡ cond (inside_of window (day_of date)) thaw ordinary
  unfolding legs_on
  legs_chosen e = rw e

  -- "Inside the window the thaw table is the day's"
  pub legs_thaw : refusal ≡ 0 → inside_of window (day_of date) ≡ true → answer ≡ thaw
  legs_thaw e inside = legs_chosen e ∙ rw inside

  -- "on every other date the ordinary"
  pub legs_ordinary : refusal ≡ 0 → inside_of window (day_of date) ≡ false → answer ≡ ordinary
  legs_ordinary e outside = legs_chosen e ∙ rw outside

  -- "A refusal hands back an empty part": of the ordinary table
  pub legs_refused : (refusal ≡ 0 → ⊥) → answer ≡ empty_part ordinary
  unfolding legs_on
  legs_refused r = sym (zeros_told refusal _ (λ number. empty_part ordinary) r)

  -- what comes back of accepted inputs is an accepted table of so many places
  pub legs_accepted : refusal ≡ 0 → table_refusal n answer.now ≡ 0
  legs_accepted e = pick (inside_of window (day_of date)) refl
    where
      tables : (table_refusal n ordinary.now ≡ 0) × (table_refusal n thaw.now ≡ 0)
      tables = then_zero _ _ (then_zero (calendar_refusal window date) _ e).1

      pick : (b : Bool) → inside_of window (day_of date) ≡ b → table_refusal n answer.now ≡ 0
      pick true inside = ap (λ (t : Lent). table_refusal n t.now) (legs_thaw e inside) ∙ tables.1
      pick false outside = ap (λ (t : Lent). table_refusal n t.now) (legs_ordinary e outside) ∙ tables.0

  -- of one place the part is empty too, so that the test "alone tells a refusal from a table of one place"
  pub one_place : n ≡ 1 → refusal ≡ 0 → answer.now ≡ []
  unfolding leg_count
  one_place one e =
      let run = (then_zero (run_refusal n (length answer.now)) _ (legs_accepted e)).0 in
      drop_of_length-le answer.now {i = 0} (le_of_eq ((run_accepted n _ run).1 ∙ ap leg_count one))

-- "in every year a date is inside or not by month, then day": dates of one month and day have the same table
pub every_year : (n : ℕ) (ordinary thaw : Lent) (window : Window) (a b : Date) → day_of a ≡ day_of b
    → season_refusal n ordinary.now thaw.now window a ≡ 0 → season_refusal n ordinary.now thaw.now window b ≡ 0
    → legs_on n ordinary thaw window a ≡ legs_on n ordinary thaw window b
unfolding legs_on
every_year n ordinary thaw window a b same p q = rw (p, q) (ap (λ (at : MonthDay). cond (inside_of window at) thaw ordinary) same)
