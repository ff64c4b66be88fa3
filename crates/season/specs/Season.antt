-- The table of a date, for every input: paper 10, "The thaw tables".
use Rattle.std.specs.Prelude.{ℕ, cond, []}
use Rattle.std.specs.Borrow.{Bor}
use Rattle.base.specs.Numbers.{◌then◌, unless_refused}
use Rattle.road.specs.Table.{Table, table_refusal}
use Rattle.season.specs.declared.Window.{Window}
use Rattle.season.specs.declared.Date.{Date}
use Rattle.season.specs.Calendar.{day_of, calendar_refusal}
use Rattle.season.specs.Windows.{inside_of}

-- "the ordinary table and then the thaw table are tested", both "for one number of places"
abbrev pub tables_refusal : ℕ → Table → Table → ℕ
tables_refusal n ordinary thaw = table_refusal n ordinary then table_refusal n thaw

-- 14 "before the ordinary table and then the thaw table"
abbrev pub season_refusal : ℕ → Table → Table → Window → Date → ℕ
season_refusal n ordinary thaw window date = calendar_refusal window date then tables_refusal n ordinary thaw

-- a lent table: where it lies, and its numbers
abbrev pub Lent : Type 0
Lent = Bor Table

-- the part of a lent table that begins where it does and has no numbers
abbrev pub empty_part : Lent → Lent
empty_part table = record { ref_ptr = table.ref_ptr; now = [] }

-- "Inside the window the thaw table is the day's, on every other date the ordinary", "as that part itself": the reference that comes back.
-- "A refusal hands back an empty part"
unfoldable pub legs_on : ℕ → Lent → Lent → Window → Date → Lent
legs_on n ordinary thaw window date =
    unless_refused (season_refusal n ordinary.now thaw.now window date) (cond (inside_of window (day_of date)) thaw ordinary)
    (λ number. empty_part ordinary)
