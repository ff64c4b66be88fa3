-- What the private functions that write a line promise. No public contract cites it.
use Rattle.std.specs.Prelude.{ℕ, ◌+◌, ◌≤◌, List, ◌≡◌, length, replicate}
use Rattle.base.specs.Lists.{splice}
use Rattle.dayfile.specs.Day.{most_calls}
use Rattle.report.specs.declared.Printed.{Printed}

-- a print without text
pub record Blank (print : Printed) : Type 0 where
  pub front : print.length ≡ 0
  pub zeros : print.text ≡ replicate 32768 0

-- new is written into old from index at: the buffer then, and the index behind what was written
pub record Put (new old : List ℕ) (at : ℕ) (now : List ℕ) (next : ℕ) : Type 0 where
  pub buffer : now ≡ splice at new old
  pub behind : next ≡ at + length new

-- what the lines of m calls are given: no text before them, and no more calls than a day may have
pub record CallsGiven (at m : ℕ) : Type 0 where
  pub front : at ≡ 0
  pub few : m ≤ most_calls
