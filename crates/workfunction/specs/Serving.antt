-- Calls served one after another.
use Rattle.std.specs.Prelude.{ℕ, List, [], ◌∷◌, ◌++◌}
use Rattle.workfunction.specs.Movement.{work}
use Rattle.workfunction.specs.Choice.{moved, drive, choice}

-- "Returned: crane, metres driven d(s,r) [..], and 'least', the new w of the new stands."
pub record Served : Type 0 where
  pub crane : ℕ
  pub metres : ℕ
  pub least : ℕ

module _ (d : ℕ → ℕ → ℕ) (n : ℕ) (starts : List ℕ) where
  -- of a call at r, after those already served, where crane s goes to it
  unfoldable pub served_by : ℕ → List ℕ → List ℕ → ℕ → Served
  served_by s calls stands r = record { crane = s; metres = drive d stands r s; least = work d n starts (calls ++ (r ∷ [])) (moved stands r s) }

  -- where the crane chosen does
  abbrev pub served : List ℕ → List ℕ → ℕ → Served
  served calls stands r = served_by (choice d n starts calls stands r) calls stands r

  -- the calls to come: "Its stand becomes r, r is appended."
  unfoldable pub serve : List ℕ → List ℕ → List ℕ → List Served
  serve calls stands [] = []
  serve calls stands (r ∷ rs) =
      served calls stands r ∷ serve (calls ++ (r ∷ [])) (moved stands r (choice d n starts calls stands r)) rs

  -- the stands once they are served
  unfoldable pub stands_after : List ℕ → List ℕ → List ℕ → List ℕ
  stands_after calls stands [] = stands
  stands_after calls stands (r ∷ rs) = stands_after (calls ++ (r ∷ [])) (moved stands r (choice d n starts calls stands r)) rs
