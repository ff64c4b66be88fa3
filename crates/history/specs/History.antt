-- Paper 5: books grown from a fresh one by accepted commits, and their histories.
use Rattle.std.specs.Prelude.{ℕ, ◌+◌, List, [], ◌∷◌, ◌++◌, ◌≡◌, eqb, ℤ}
use Rattle.road.specs.Table.{Table}
use Rattle.dayfile.specs.declared.Day.{Day}
use Rattle.workfunction.specs.Choice.{moved}
use Rattle.workfunction.specs.Lists.{filter}
use Rattle.book.specs.declared.Book.{Book}
use Rattle.book.specs.Book.{fresh_of}
use Rattle.dispatch.specs.Commit.{drive_of, commit_of}
use Rattle.dispatch.specs.Quote.{quote_of}

-- a crane's drive to a call
pub record Drive : Type 0 where
  pub crane : ℕ
  pub place : ℕ
  pub metres : ℕ

-- that of crane s to a call at r, from its stand in the book
abbrev pub drive_to : Book → Table → ℕ → ℕ → Drive
drive_to book t r s = record { crane = s; place = r; metres = drive_of book t r s }

-- the sum of drives: of a history, which has them in their order, "the day's drive"
unfoldable pub sum_of : List Drive → ℕ
sum_of [] = 0
sum_of (x ∷ h) = x.metres + sum_of h

-- "that crane's drives in the history"
abbrev pub drives_of : ℕ → List Drive → List Drive
drives_of j h = filter (λ x. eqb x.crane j) h

-- "the sum of that crane's drives"
abbrev pub driven_by : ℕ → List Drive → ℕ
driven_by j h = sum_of (drives_of j h)

-- the stands that cranes reach by the drives, each crane at the place of its last
unfoldable pub stands_by : List ℕ → List Drive → List ℕ
stands_by stands [] = stands
stands_by stands (x ∷ h) = stands_by (moved stands x.place x.crane) h

module _ (day : Day) (t : Table) where
  -- "every book grown from a fresh one by accepted commits", with its history. Any crane may be committed, and the plan and the
  -- weights, which document 01 leaves open, may be any.
  pub data Grown : Book → List Drive → Type 0 where
    opened : {book : Book} → (fresh_of day t).number ≡ 0 → book ≡ (fresh_of day t).book → Grown book []
    committed : {book next : Book} {h : List Drive} → Grown book h → (r s : ℕ) (plan : List ℕ) (weights : List ℤ)
        → (commit_of book day.places t r s plan weights).number ≡ 0 → next ≡ (commit_of book day.places t r s plan weights).book
        → Grown next (h ++ (drive_to book t r s ∷ []))

  -- every crane committed is the one that was quoted
  unfoldable pub AsQuoted : {book : Book} {h : List Drive} → Grown book h → Type 0
  AsQuoted (opened accepted e) = Unit {0}
  AsQuoted (committed {book} grown r s plan weights accepted e) = AsQuoted grown × (s ≡ (quote_of book day.places t r).figures.crane)
