-- `dispatch::search::head` meets its contract: the raised weight is a natural number above every leg. Assumes nothing.
use Prim.Native.Nat.{ℕ, ◌<◌}
use mathlib.Core.Path.{◌≡◌}
use lib.IntN.{ℤ, pos, ◌+ℤ◌}
use mir.Syntax.{w64}
use mir.Val.{SFits, to_z, of_z}
use mir.ValLaws.{to_z-of_z}
use native.Mathlib.Omega.{arith}
use Rattle.dispatch.specs.Search.{lift, head_of}
use Rattle.dispatch.proofs.search.Heads.{Lifted, lifted}
use Rattle.book.proofs.Vouching.{ranged}
use Rattle.dispatch.proofs.search.head.Goals as goal
use Rattle.dispatch.proofs.search.head.Goals.{Start}

module _ (y : ℤ) (f : SFits w64 y) {m : ℕ} (up : Lifted y m) (fits : m < 9223372036854775808) where
  sum_fits : SFits w64 (to_z w64 (of_z w64 y) +ℤ pos lift)
  sum_fits = rw (to_z-of_z w64 y f, up.sum) (record { sfits = fits })

  sum_read : to_z w64 (of_z w64 (to_z w64 (of_z w64 y) +ℤ pos lift)) ≡ pos m
  sum_read = rw (to_z-of_z w64 y f, up.sum) (to_z-of_z w64 (pos m) (record { sfits = fits }))

-- the raised weight
up : (c : Start) → (m : ℕ) × Lifted c.args.y m
up c = lifted c.args.y c.requires.0

fits : (c : Start) → (up c).0 < 9223372036854775808
fits c = let e = (up c).1.parts in omega (arith, ranged c.args.y c.requires.0)

pub overflow_add-result : goal.overflow_add-result
overflow_add-result c = sum_fits _ c.ranges.y (up (goal.at.overflow_add-result c).Start).1 (fits (goal.at.overflow_add-result c).Start)

pub overflow_cast-result : goal.overflow_cast-result
overflow_cast-result c = let h = fits (goal.at.overflow_cast-result c).Start in rw (sum_read _ c.ranges.y (up (goal.at.overflow_cast-result c).Start).1 (fits (goal.at.overflow_cast-result c).Start)) (tt, record { fits = omega arith })

pub overflow_sub-result : goal.overflow_sub-result
overflow_sub-result c = let e = (up (goal.at.overflow_sub-result c).Start).1.parts in
    rw (sum_read _ c.ranges.y (up (goal.at.overflow_sub-result c).Start).1 (fits (goal.at.overflow_sub-result c).Start)) (omega (arith, ranged c.args.y c.requires.0))

pub returns : goal.returns
unfolding head_of
returns c = rw (sum_read _ c.ranges.y (up (goal.at.returns c).Start).1 (fits (goal.at.returns c).Start), (up (goal.at.returns c).Start).1.sum)
