-- Which days of a year a window holds: paper 10's window, "a first and a last month and day, both inside".
use Rattle.std.specs.Prelude.{◌<◌, Bool, ◌&&◌, ◌||◌, cond, ◌⊎◌, ◌≡◌, leb, ltb, eqb}
use Rattle.season.specs.declared.MonthDay.{MonthDay}
use Rattle.season.specs.declared.Window.{Window}

-- "by month, then day": one day of a year is no later than another
unfoldable pub no_later : MonthDay → MonthDay → Bool
no_later a b = ltb a.month b.month || (eqb a.month b.month && leb a.day b.day)

-- between the edges, both inside; "A first later than the last runs over the year's end": from the first on, or up to the last
unfoldable pub inside_of : Window → MonthDay → Bool
inside_of window at =
    let from = no_later window.first at in
    let until = no_later at window.last in
    cond (no_later window.first window.last) (from && until) (from || until)

-- for the theorems: one day of a year is earlier than another, by its month, or in the same month by its day
abbrev pub Earlier : MonthDay → MonthDay → Type 0
Earlier a b = (a.month < b.month) ⊎ ((a.month ≡ b.month) × (a.day < b.day))
