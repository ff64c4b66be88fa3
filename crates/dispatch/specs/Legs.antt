-- The leg costs of a plan as one table of numbers: no public contract cites these. Its rows have a column for each stop. Row x holds the
-- metres to the place x, and the last row says of each follower at which place it is. A record whose name ends in `Given` is what a function
-- is given.
use Rattle.std.specs.Prelude.{ℕ, ◌+◌, ◌*◌, ◌<◌, ◌≤◌, List, ◌≡◌, length, get_or}
use Rattle.road.specs.Table.{most_places}
use Rattle.dayfile.specs.Day.{most_cranes, most_calls}
use Rattle.workfunction.specs.Plan.{stops, place}
use Rattle.book.specs.declared.Book.{Book}
use Rattle.book.specs.Book.{most_stops, stands_of, requests_of, follower}

-- the stops that a plan at work has room for: a book's, and one more for the call by which an end is moved
abbrev pub plan_room : ℕ
plan_room = most_stops + 1

-- the number in row i, column p
unfoldable pub cell : List ℕ → ℕ → ℕ → ℕ
cell costs i p = get_or costs (plan_room * i + p) 0

-- the row of the follower b
unfoldable pub follower_row : List ℕ → ℕ → ℕ
follower_row costs b = cell costs most_places b

-- the cost of the leg from stop p to follower b
unfoldable pub leg_at : List ℕ → ℕ → ℕ → ℕ
leg_at costs p b = cell costs (follower_row costs b) p

-- all rows are there, and every follower has that of a place
pub record Costed (costs : List ℕ) : Type 0 where
  pub long : plan_room * (most_places + 1) ≤ length costs
  pub rows : (b : ℕ) → b < plan_room → follower_row costs b < most_places

-- a plan's table, d being the metres between n places: the rows of the places, as far as the stops, and the followers' rows
pub record LegTable (n : ℕ) (d : ℕ → ℕ → ℕ) (starts calls stands costs : List ℕ) : Type 0 where
  pub costed : Costed costs
  pub metres : (p x : ℕ) → p < stops starts calls → x < n → cell costs x p ≡ d (place starts calls p) x
  pub rows : (b : ℕ) → b < stops starts calls → follower_row costs b ≡ place stands calls b

-- every place of a list has a row
abbrev pub Rowed : List ℕ → Type 0
Rowed places = (i : ℕ) → i < length places → get_or places i 0 < most_places

-- the rows of the first n places are filled, as far as the stops; the last one is as it was
pub record RowsFilled (n : ℕ) (read : ℕ → ℕ → ℕ) (starts calls costs costs' : List ℕ) : Type 0 where
  pub metres : (p x : ℕ) → p < stops starts calls → x < n → cell costs' x p ≡ read (place starts calls p) x
  pub rows : (b : ℕ) → b < plan_room → follower_row costs' b ≡ follower_row costs b

-- the follower b is put at the place r; no other number has changed
pub record FollowerPut (b r : ℕ) (costs costs' : List ℕ) : Type 0 where
  pub costed : Costed costs'
  pub row : follower_row costs' b ≡ r
  pub others : (a : ℕ) → (a ≡ b → ⊥) → follower_row costs' a ≡ follower_row costs a
  pub cells : (i p : ℕ) → i < most_places → p < plan_room → cell costs' i p ≡ cell costs i p

-- what putting the followers from `first` on at some places is given
pub record FollowersGiven (places : List ℕ) (first : ℕ) (costs : List ℕ) : Type 0 where
  pub few : first + length places ≤ plan_room
  pub placed : Rowed places
  pub costed : Costed costs

-- m followers from `first` on are put at the first places of a list; those before them and all metres are as they were
pub record FollowersPut (m first : ℕ) (places costs costs' : List ℕ) : Type 0 where
  pub costed : Costed costs'
  pub put : (i : ℕ) → i < m → follower_row costs' (first + i) ≡ get_or places i 0
  pub before : (b : ℕ) → b < first → follower_row costs' b ≡ follower_row costs b
  pub cells : (i p : ℕ) → i < most_places → p < plan_room → cell costs' i p ≡ cell costs i p

-- what the filling of a plan's table is given: followers at places that have a row, and room for the stops
pub record TableGiven (starts calls stands costs : List ℕ) : Type 0 where
  pub aligned : length stands ≡ length starts
  pub few : stops starts calls ≤ plan_room
  pub stood : Rowed stands
  pub called : Rowed calls
  pub costed : Costed costs

-- what a book's table is made of: a book within its limits, at places that have a row
pub record BookGiven (book : Book) (costs : List ℕ) : Type 0 where
  pub cranes : book.cranes ≤ most_cranes
  pub calls : book.calls ≤ most_calls
  pub stood : Rowed (stands_of book)
  pub called : Rowed (requests_of book)
  pub costed : Costed costs

-- the column of stop N is filled by its metres to the first n places; the other columns and the last row are as they were
pub record ColumnFilled (n : ℕ) (to : ℕ → ℕ) (N : ℕ) (costs costs' : List ℕ) : Type 0 where
  pub column : (x : ℕ) → x < n → cell costs' x N ≡ to x
  pub others : (i p : ℕ) → p < plan_room → (p ≡ N → ⊥) → cell costs' i p ≡ cell costs i p
  pub rows : (b : ℕ) → b < plan_room → follower_row costs' b ≡ follower_row costs b

-- the call N at r is added, as a stop and as a follower; the stops and followers before it are as they were
pub record StopAdded (read : ℕ → ℕ → ℕ) (N r : ℕ) (costs costs' : List ℕ) : Type 0 where
  pub costed : Costed costs'
  pub column : (x : ℕ) → x < most_places → cell costs' x N ≡ read r x
  pub row : follower_row costs' N ≡ r
  pub metres : (p x : ℕ) → p < N → x < most_places → cell costs' x p ≡ cell costs x p
  pub rows : (b : ℕ) → b < N → follower_row costs' b ≡ follower_row costs b

-- what the cost of a plan is given: followers in range, and the table of the legs
pub record CostGiven (n : ℕ) (plan costs : List ℕ) : Type 0 where
  pub few : n ≤ plan_room
  pub planned : n ≤ length plan
  pub costed : Costed costs
  pub below : (p : ℕ) → p < n → follower plan p < n
