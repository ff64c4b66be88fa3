-- The metres of a tested table are roads: a metric, no leg above the limit, and read as they are. So are those of a sound book,
-- whose starts and calls are a day within the limits. Those of a day that is tested before 8 are the same but a metric. Assumes nothing.
use Prim.Native.Nat.{ℕ, ◌≤◌}
use mathlib.Core.Bool.{true}
use mathlib.Core.Path.{◌≡◌, refl}
use native.Mathlib.Nat.{le_trans}
use Rattle.road.specs.Table.{Table, most_places, metres_of, entry, legs_rule}
use Rattle.road.proofs.Surveyed.{Surveyed, surveyed_metric}
use Rattle.road.proofs.Table.{entry_in, legs_short}
use Rattle.dayfile.specs.declared.Day.{Day}
use Rattle.dayfile.specs.Day.{day_starts, day_requests, DayArrays}
use Rattle.dayfile.proofs.Limits.{Placed, length-starts, length_requests}
use Rattle.workfunction.specs.Movement.{Instance}
use Rattle.book.specs.declared.Book.{Book}
use Rattle.book.specs.Book.{starts_of, requests_of, BookArrays}
use Rattle.book.proofs.Sound.{placed, Sound, starts-long, requests_long, sound_fits, sound_instance}
use Rattle.dispatch.specs.Insertion.{Legible, Roads, Asked}

legible : {n : ℕ} (t : Table) → legs_rule t ≡ true → n ≤ most_places → Legible n (metres_of t) (entry (metres_of t))
legible t legs most = record {
  few = most;
  short = λ u v p q. legs_short t legs u v;
  reads = λ u v p q. entry_in (metres_of t) u v (le_trans p most) (le_trans q most);
}

pub roads : {n : ℕ} {t : Table} → Surveyed n t → n ≤ most_places → Roads n (metres_of t) (entry (metres_of t))
roads {t = t} surveyed most = record { legible = legible t surveyed.legs most; laws = surveyed_metric surveyed }

module _ {day : Day} {t : Table} (h : Placed day t) where
  pub placed_legible : Legible day.places (metres_of t) (entry (metres_of t))
  placed_legible = legible t h.legs h.counts.places

  module _ (arrays : DayArrays day) where
    pub placed_instance : Instance day.places (day_starts day) (day_requests day)
    placed_instance = record {
      crane = rw (length-starts day arrays h.counts.cranes) h.counts.crane;
      started = record { cranes = refl; placed = placed day.places (day_starts day) h.starts };
      called = placed day.places (day_requests day) h.requests;
    }

    pub placed_asked : Asked day.places (day_starts day) (day_requests day)
    placed_asked = record {
      day = placed_instance;
      cranes = rw (length-starts day arrays h.counts.cranes) h.counts.cranes;
      few = rw (length_requests day arrays h.counts.calls) h.counts.calls;
    }

module _ {book : Book} {n : ℕ} {t : Table} where
  pub sound_roads : Sound book n t → Roads n (metres_of t) (entry (metres_of t))
  sound_roads s = roads s.surveyed s.counts.places

  pub sound_asked : BookArrays book → Sound book n t → Asked n (starts_of book) (requests_of book)
  sound_asked arrays s = record {
    day = sound_instance arrays s;
    cranes = rw (starts-long (sound_fits arrays s)) s.counts.cranes;
    few = rw (requests_long (sound_fits arrays s)) s.counts.calls;
  }
