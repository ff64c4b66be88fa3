-- What a sound book gives of its stands: as many as cranes, each a place of the table.
-- Assumes nothing.
use Prim.Native.Nat.{ℕ, ◌<◌, ◌≤◌}
use mathlib.Core.Bool.{Bool, true, false}
use mathlib.Core.Path.{◌≡◌, refl, sym}
use lib.ListN.{length}
use native.Mathlib.Nat.{lt_irrefl, lt_of_lt_of_le}
use Rattle.road.specs.Table.{Table, most_places}
use Rattle.dayfile.specs.Day.{most_cranes}
use Rattle.dayfile.proofs.Limits.{stop_below}
use Rattle.workfunction.specs.Movement.{contains}
use Rattle.workfunction.proofs.Movement.{contains_in}
use Rattle.book.specs.declared.Book.{Book}
use Rattle.book.specs.Book.{stands_of, BookArrays}
use Rattle.book.proofs.Sound.{Sound, sound_fits, stands_long, placed}
use Rattle.near.specs.Mask.{InTable}
use Rattle.near.specs.Occupancy.{holds_crane}

module _ {book : Book} {n : ℕ} {t : Table} (arrays : BookArrays book) (sound : Sound book n t) where
  pub enough_stands : book.cranes ≤ length book.stands
  enough_stands = (sound_fits arrays sound).stands

  pub as_many_stands : book.cranes ≡ length (stands_of book)
  as_many_stands = sym (stands_long (sound_fits arrays sound))

  pub some_stand : 0 < length (stands_of book)
  some_stand = rw (← as_many_stands) sound.counts.crane

  pub few_stands : length (stands_of book) ≤ most_cranes
  few_stands = rw (← as_many_stands) sound.counts.cranes

  pub few_places : n ≤ most_places
  few_places = sound.counts.places

  pub stands_in_table : InTable (stands_of book)
  stands_in_table s lt = lt_of_lt_of_le (stop_below n (stands_of book) sound.stands s lt) few_places

  -- no crane stands past the places
  pub none_past : (p : ℕ) → n ≤ p → holds_crane book p ≡ false
  none_past p le = go (contains p (stands_of book)) refl
    where
      go : (b : Bool) → contains p (stands_of book) ≡ b → contains p (stands_of book) ≡ false
      go true e = absurd (lt_irrefl p (lt_of_lt_of_le (placed n (stands_of book) sound.stands (contains_in p (stands_of book) e)) le))
      go false e = e
