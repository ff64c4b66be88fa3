-- The order of the days of a year, by month and then by day. Assumes nothing.
use mathlib.Core.Bool.{true, ◌&&◌}
use mathlib.Core.Path.{◌≡◌}
use native.Mathlib.Omega.{arith}
use Rattle.std.proofs.lemmas.Bool.Decides.{nat_tests}
use Rattle.season.specs.declared.MonthDay.{MonthDay}
use Rattle.season.specs.declared.Window.{Window}
use Rattle.season.specs.Windows.{no_later, inside_of}

pub no_later_self : (a : MonthDay) → no_later a a ≡ true
unfolding no_later
no_later_self a = grind (arith, nat_tests)

-- two days neither of which is later are one
pub no_later_both : (a b : MonthDay) → no_later a b ≡ true → no_later b a ≡ true → a ≡ b
unfolding no_later
no_later_both a b p q = λ i. record { month = same.0 i; day = same.1 i }
  where
    same : (a.month ≡ b.month) × (a.day ≡ b.day)
    same = grind (arith, nat_tests)

-- where the edges are in order, a day inside is asked of both
pub inside_between : (window : Window) (at : MonthDay) → no_later window.first window.last ≡ true
    → inside_of window at ≡ (no_later window.first at && no_later at window.last)
unfolding inside_of
inside_between window at e = rw e
