-- The Gregorian calendar, and paper 10's refusal by it.
use Rattle.std.specs.Prelude.{ℕ, ◌%◌, Bool, true, ◌&&◌, ◌||◌, not, cond, List, [], ◌∷◌, eqb, get_or}
use Rattle.base.specs.Numbers.{unless}
use Rattle.base.specs.Tests.{within}
use Rattle.season.specs.declared.MonthDay.{MonthDay}
use Rattle.season.specs.declared.Window.{Window}
use Rattle.season.specs.declared.Date.{Date}

-- "Gregorian dates of 1583 to 9999 count."
abbrev pub first_year : ℕ
first_year = 1583

abbrev pub last_year : ℕ
last_year = 9999

-- the Gregorian rule: every fourth year, but of the years by 100 only those by 400
unfoldable pub leap_year : ℕ → Bool
leap_year y = eqb (y % 4) 0 && (not (eqb (y % 100) 0) || eqb (y % 400) 0)

-- the days of the months, January to December, behind a 0 for the number 0, which is no month; of a leap year or a common one
abbrev pub months : Bool → List ℕ
months leap = 0 ∷ 31 ∷ cond leap 29 28 ∷ 31 ∷ 30 ∷ 31 ∷ 30 ∷ 31 ∷ 31 ∷ 30 ∷ 31 ∷ 30 ∷ 31 ∷ []

-- the days of a month by its number; 0 for a number that is no month
unfoldable pub month_days : Bool → ℕ → ℕ
month_days leap m = get_or (months leap) m 0

-- whether a leap year, or a common one, has this month and day
unfoldable pub real_day : Bool → MonthDay → Bool
real_day leap at = within 1 (month_days leap at.month) at.day

-- the month and the day of a date
abbrev pub day_of : Date → MonthDay
day_of date = record { month = date.month; day = date.day }

-- "a real one of those years"
unfoldable pub date_rule : Date → Bool
date_rule date = within first_year last_year date.year && real_day (leap_year date.year) (day_of date)

-- "an edge being real if a leap year has it"
abbrev pub edges_rule : Window → Bool
edges_rule window = real_day true window.first && real_day true window.last

-- "14 when the date isn't a real one of those years or an edge isn't real"
abbrev pub calendar_refusal : Window → Date → ℕ
calendar_refusal window date = unless (date_rule date && edges_rule window) 14
