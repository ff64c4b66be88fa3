-- The definitions compute: dates and edges with their refusal, and windows with days that they hold or leave out.
-- Assumes nothing.
use Prim.Native.Nat.{ℕ}
use mathlib.Core.Bool.{Bool, true, false}
use mathlib.Core.List.{List, [], ◌∷◌, map}
use mathlib.Core.Path.{◌≡◌, refl}
use Rattle.base.specs.Tests.{within}
use Rattle.season.specs.declared.MonthDay.{MonthDay}
use Rattle.season.specs.Calendar.{leap_year, month_days, real_day, date_rule, calendar_refusal}
use Rattle.season.specs.Windows.{no_later, inside_of}

-- a day and its month
abbrev on : ℕ → ℕ → MonthDay
on day month = record { month = month; day = day }

-- a date, or a window's first or last day beside dates that are real, and the number
pub data Case : Type 0 where
  date : ℕ → ℕ → ℕ → ℕ → Case
  first : ℕ → ℕ → ℕ → Case
  last : ℕ → ℕ → ℕ → Case

unfoldable pub cases : List Case
cases =
    -- 29 February: of a leap year, of a common one, of years by 100 and by 400
    date 29 2 2024 0 ∷ date 29 2 2023 14 ∷ date 29 2 1900 14 ∷ date 29 2 2000 0 ∷
    -- no such day, no such month
    date 31 4 2024 14 ∷ date 30 4 2024 0 ∷ date 0 1 2024 14 ∷ date 1 0 2024 14 ∷ date 1 13 2024 14 ∷ date 32 12 2024 14 ∷
    -- "Gregorian dates of 1583 to 9999 count."
    date 31 12 1582 14 ∷ date 1 1 1583 0 ∷ date 31 12 9999 0 ∷ date 1 1 10000 14 ∷
    -- the highest numbers
    date 255 255 65535 14 ∷
    -- "29 February may be an edge"
    first 29 2 0 ∷ last 29 2 0 ∷ first 30 2 14 ∷ last 30 2 14 ∷ first 31 4 14 ∷ last 0 1 14 ∷ first 1 0 14 ∷ last 1 13 14 ∷
    []

unfoldable pub found : Case → ℕ
found (date day month year _) =
    calendar_refusal (record { first = on 1 3; last = on 31 5 }) (record { year = year; month = month; day = day })
found (first day month _) =
    calendar_refusal (record { first = on day month; last = on 31 5 }) (record { year = 2023; month = 1; day = 1 })
found (last day month _) =
    calendar_refusal (record { first = on 1 3; last = on day month }) (record { year = 2023; month = 1; day = 1 })

unfoldable pub told : Case → ℕ
told (date _ _ _ number) = number
told (first _ _ number) = number
told (last _ _ number) = number

pub cases_agree : map found cases ≡ map told cases
unfolding cases found told within leap_year month_days real_day date_rule
cases_agree = refl

-- a window's first and last day, a day, and whether it is inside
pub data Held : Type 0 where
  held : MonthDay → MonthDay → MonthDay → Bool → Held

unfoldable pub days : List Held
days =
    -- both edges are inside
    held (on 1 3) (on 31 5) (on 1 3) true ∷ held (on 1 3) (on 31 5) (on 31 5) true ∷ held (on 1 3) (on 31 5) (on 15 4) true ∷
    held (on 1 3) (on 31 5) (on 29 2) false ∷ held (on 1 3) (on 31 5) (on 1 6) false ∷
    -- over the year's end
    held (on 20 12) (on 10 1) (on 20 12) true ∷ held (on 20 12) (on 10 1) (on 31 12) true ∷ held (on 20 12) (on 10 1) (on 1 1) true ∷
    held (on 20 12) (on 10 1) (on 10 1) true ∷ held (on 20 12) (on 10 1) (on 11 1) false ∷ held (on 20 12) (on 10 1) (on 19 12) false ∷
    -- within one month, forwards and over the year's end
    held (on 10 4) (on 20 4) (on 15 4) true ∷ held (on 20 4) (on 10 4) (on 15 4) false ∷ held (on 20 4) (on 10 4) (on 15 5) true ∷
    -- equal edges
    held (on 29 2) (on 29 2) (on 29 2) true ∷ held (on 29 2) (on 29 2) (on 28 2) false ∷ held (on 29 2) (on 29 2) (on 1 3) false ∷
    []

unfoldable pub inside : Held → Bool
inside (held from until at _) = inside_of (record { first = from; last = until }) at

unfoldable pub expected : Held → Bool
expected (held _ _ _ answer) = answer

pub days_agree : map inside days ≡ map expected days
unfolding days inside expected no_later inside_of
days_agree = refl
