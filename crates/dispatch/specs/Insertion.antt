-- One more call taken into a plan with its weights, the ends of a plan moved, and a day that is under way: no public contract cites
-- these. The new call has the number N.
use Rattle.std.specs.Prelude.{ℕ, ◌+◌, ◌*◌, ◌<◌, ◌≤◌, true, cond, List, [], ◌∷◌, ◌++◌, ◌≡◌, eqb, ℤ, length, get_or, set, drop, Option, None, Some}
use Rattle.base.specs.Lists.{up_to}
use Rattle.base.specs.Metric.{Metric}
use Rattle.road.specs.Table.{Table, most_places, most_metres, metres_of}
use Rattle.dayfile.specs.Day.{most_cranes, most_calls}
use Rattle.workfunction.specs.Choice.{preferred, moved, drive, choice}
use Rattle.workfunction.specs.Lists.{sum_below}
use Rattle.workfunction.specs.Movement.{Instance, work}
use Rattle.workfunction.specs.NetCost.{Flipped}
use Rattle.workfunction.specs.Plan.{plan_rule, plan_cost, stops, leg_cost}
use Rattle.workfunction.specs.Position.{Position}
use Rattle.workfunction.specs.Serving.{Served, served_by, serve, stands_after}
use Rattle.book.specs.declared.Book.{Book}
use Rattle.book.specs.Book.{most_stops, starts_of, stands_of, requests_of, stops_of, follower, weight}
use Rattle.dispatch.specs.Legs.{plan_room, leg_at, Costed, LegTable}
use Rattle.dispatch.specs.Search.{at, net_base, net_of, Sized, Certified, Witnessed, Totalled, Searched, Reweighed}
use Rattle.dispatch.specs.Quote.{quote_refusal}
use Rattle.dispatch.specs.ServedDay.{nth}

-- of each end below k: the stop that it follows, and what it costs to free it
pub record Freed (k N : ℕ) (f net before net_end : ℕ → ℕ) : Type 0 where
  pub stop : (e : ℕ) → e < k → before e < N
  pub follows : (e : ℕ) → e < k → f (before e) ≡ e
  pub costs : (e : ℕ) → e < k → net_end e ≡ net (before e)

-- what the net costs of the ends are given: a plan of N stops and its totals
pub record NetsGiven (k N : ℕ) (plan costs totals : List ℕ) : Type 0 where
  pub few : N < plan_room
  pub cranes : k ≤ most_cranes
  pub stops : k ≤ N
  pub plan_long : N < length plan
  pub totals_long : N < length totals
  pub costed : Costed costs
  pub planned : plan_rule k N (follower plan) ≡ true
  pub totalled : Totalled N (follower plan) (leg_at costs) (at totals)

-- what the choice of an end is given: ends with their net costs
pub record ChoiceGiven (k N : ℕ) (nets costs : List ℕ) : Type 0 where
  pub crane : 0 < k
  pub cranes : k ≤ most_cranes
  pub few : N < plan_room
  pub costed : Costed costs
  pub low : (e : ℕ) → e < k → at nets e ≤ net_base + most_metres

-- of k ends the first: of the least sum; among equals of the least way; then of the lowest number
pub record Foremost (k : ℕ) (sum way : ℕ → ℕ) (e : ℕ) : Type 0 where
  pub below : e < k
  pub sums : (t : ℕ) → t < k → sum e ≤ sum t
  pub ways : (t : ℕ) → t < k → sum e ≡ sum t → way e ≤ way t
  pub number : (t : ℕ) → t < k → sum e ≡ sum t → way e ≡ way t → e ≤ t

-- of the ends below k the one of the least net cost and way from N together; among equals of the least way; then of the lowest
-- number
abbrev pub least_end : ℕ → ℕ → (ℕ → ℕ) → (ℕ → ℕ → ℕ) → ℕ
least_end k N net_end c = preferred ((λ e. net_end e + c N e) ∷ c N ∷ []) k

-- the end that is picked: the least one, or a given one
abbrev pub picked : Option ℕ → ℕ → ℕ
picked None e = e
picked (Some s) e = s

-- what the search delivers of the ends: of each the stop that it follows and its net cost
pub record Found (k N : ℕ) (f : ℕ → ℕ) (c : ℕ → ℕ → ℕ) (total parent rank before net_end : ℕ → ℕ) : Type 0 where
  pub searched : Searched k N f c total parent rank
  pub freed : Freed k N f (net_of f c total) before net_end

-- what taking in the call N for the end s delivers: the plan g with s freed, and weights y, the negated net costs
pub record Inserted (k N : ℕ) (f : ℕ → ℕ) (c : ℕ → ℕ → ℕ) (s : ℕ) (g : ℕ → ℕ) (old y : ℕ → ℤ) : Type 0 where
  pub total : ℕ → ℕ
  pub parent : ℕ → ℕ
  pub rank : ℕ → ℕ
  pub before : ℕ → ℕ
  pub net_end : ℕ → ℕ
  pub found : Found k N f c total parent rank before net_end
  pub end : s < k
  pub flipped : Flipped N f parent (before s) g
  pub reweighed : Reweighed N f (net_of f c total) old y

-- entries past N are as they were
pub record Unmoved (N : ℕ) (plan : List ℕ) (weights : List ℤ) (plan' : List ℕ) (weights' : List ℤ) : Type 0 where
  pub followers : (p : ℕ) → N < p → follower plan' p ≡ follower plan p
  pub weighed : (b : ℕ) → N < b → weight weights' b ≡ weight weights b

-- what the search for the ends of a call is given: a plan of N stops with weights that vouch for it, and room for the call
pub record FindGiven (k N : ℕ) (plan : List ℕ) (weights : List ℤ) (costs : List ℕ) : Type 0 where
  pub cranes : k ≤ most_cranes
  pub stops : k ≤ N
  pub sized : Sized N plan costs
  pub witnessed : Witnessed k N plan weights costs

-- what taking in a call is given
pub record InsertGiven (k N : ℕ) (pick : Option ℕ) (plan : List ℕ) (weights : List ℤ) (costs : List ℕ) : Type 0 where
  pub crane : 0 < k
  pub cranes : k ≤ most_cranes
  pub stops : k ≤ N
  pub ends : (e : ℕ) → e < k → picked pick e < k
  pub plan_long : N < length plan
  pub weights_long : N < length weights
  pub costed : Costed costs
  pub witnessed : Witnessed k N plan weights costs

-- the call is taken in for the end s, the one that is picked; entries past N are as they were
pub record CallInserted (k N : ℕ) (pick : Option ℕ) (costs plan : List ℕ) (weights : List ℤ) (s : ℕ) (plan' : List ℕ) (weights' : List ℤ) : Type 0 where
  pub taken : Inserted k N (follower (set plan N N)) (leg_at costs) s (follower plan') (weight weights) (weight weights')
  pub chosen : s ≡ picked pick (least_end k N taken.net_end (leg_at costs))
  pub unmoved : Unmoved N plan weights plan' weights'

-- of a follower: the new one where it is the old one
unfoldable pub instead : ℕ → ℕ → ℕ → ℕ
instead old new b = cond (eqb b old) new b

-- metres d between n places, within the limit of a leg, and what is read off their table
pub record Legible (n : ℕ) (d read : ℕ → ℕ → ℕ) : Type 0 where
  pub few : n ≤ most_places
  pub short : (u v : ℕ) → u < n → v < n → d u v ≤ most_metres
  pub reads : (u v : ℕ) → u < n → v < n → read u v ≡ d u v

-- the same of a metric
pub record Roads (n : ℕ) (d read : ℕ → ℕ → ℕ) : Type 0 where
  pub legible : Legible n d read
  pub laws : Metric n d

-- a day within the limits of a book
pub record Asked (n : ℕ) (starts calls : List ℕ) : Type 0 where
  pub day : Instance n starts calls
  pub cranes : length starts ≤ most_cranes
  pub few : length calls ≤ most_calls

-- a day under way: a plan to the stands with weights that vouch for it, and the table of leg costs
pub record Kept (n : ℕ) (d : ℕ → ℕ → ℕ) (starts calls stands plan : List ℕ) (weights : List ℤ) (costs : List ℕ) : Type 0 where
  pub asked : Asked n starts calls
  pub standing : Position n (length starts) stands
  pub certified : Certified (length starts) (stops starts calls) plan weights (leg_cost d starts calls stands)
  pub table : LegTable n d starts calls stands costs
  pub plan_long : most_stops ≤ length plan
  pub weights_long : most_stops ≤ length weights

-- such a plan with room for one more call, over what is read off a table of n places, whether it keeps the triangle rule or not: its
-- ends, here the stands, may be moved
pub record Movable (n : ℕ) (read : ℕ → ℕ → ℕ) (starts calls stands plan : List ℕ) (weights : List ℤ) (costs : List ℕ) : Type 0 where
  pub legible : Legible n read read
  pub kept : Kept n read starts calls stands plan weights costs
  pub plan_long : plan_room ≤ length plan
  pub weights_long : plan_room ≤ length weights

-- what moving the end e to r is given: a plan with some ends
pub record EndGiven (read : ℕ → ℕ → ℕ) (starts calls : List ℕ) (e r : ℕ) (plan : List ℕ) (weights : List ℤ) (costs : List ℕ) : Type 0 where
  pub places : ℕ
  pub stands : List ℕ
  pub movable : Movable places read starts calls stands plan weights costs
  pub end : e < length starts
  pub on : r < places

-- what moving it delivers, whatever the ends were
pub record EndMoved (read : ℕ → ℕ → ℕ) (starts calls : List ℕ) (e r : ℕ) (plan : List ℕ) (weights : List ℤ) (costs plan' : List ℕ) (weights' : List ℤ)
    (costs' : List ℕ) : Type 0 where
  pub there : (n : ℕ) (stands : List ℕ) → Movable n read starts calls stands plan weights costs → r < n
      → Movable n read starts calls (moved stands r e) plan' weights' costs'

-- what moving all ends to the places `to` is given
pub record EndsGiven (read : ℕ → ℕ → ℕ) (starts calls to plan : List ℕ) (weights : List ℤ) (costs : List ℕ) : Type 0 where
  pub places : ℕ
  pub stands : List ℕ
  pub movable : Movable places read starts calls stands plan weights costs
  pub ending : Position places (length starts) to

-- they are there
pub record EndsMoved (read : ℕ → ℕ → ℕ) (starts calls to plan : List ℕ) (weights : List ℤ) (costs : List ℕ) : Type 0 where
  pub places : ℕ
  pub there : Movable places read starts calls to plan weights costs

-- what taking in a call at r is given, the ends staying where they are: a plan with some ends, and room for the call
pub record TakeGiven (read : ℕ → ℕ → ℕ) (starts calls : List ℕ) (r : ℕ) (plan : List ℕ) (weights : List ℤ) (costs : List ℕ) : Type 0 where
  pub places : ℕ
  pub stands : List ℕ
  pub movable : Movable places read starts calls stands plan weights costs
  pub on : r < places
  pub space : length calls < most_calls

-- what taking it in delivers, whatever the ends are
pub record CallTaken (read : ℕ → ℕ → ℕ) (starts calls : List ℕ) (r : ℕ) (plan : List ℕ) (weights : List ℤ) (costs plan' : List ℕ) (weights' : List ℤ)
    (costs' : List ℕ) : Type 0 where
  pub there : (n : ℕ) (stands : List ℕ) → Movable n read starts calls stands plan weights costs → r < n → length calls < most_calls
      → Movable n read starts (calls ++ (r ∷ [])) stands plan' weights' costs'

-- what taking in all calls is given: a plan without calls
pub record TakeAllGiven (read : ℕ → ℕ → ℕ) (starts calls plan : List ℕ) (weights : List ℤ) (costs : List ℕ) : Type 0 where
  pub places : ℕ
  pub stands : List ℕ
  pub movable : Movable places read starts [] stands plan weights costs
  pub called : (i : ℕ) → i < length calls → get_or calls i 0 < places
  pub few : length calls ≤ most_calls

-- they are in it
pub record CallsTaken (read : ℕ → ℕ → ℕ) (starts calls plan : List ℕ) (weights : List ℤ) (costs plan' : List ℕ) (weights' : List ℤ)
    (costs' : List ℕ) : Type 0 where
  pub there : (n : ℕ) (stands : List ℕ) → Movable n read starts [] stands plan weights costs
      → ((i : ℕ) → i < length calls → get_or calls i 0 < n) → Movable n read starts calls stands plan' weights' costs'

-- what the least plan of a day is given: metres within the limit, whether they keep the triangle rule or not
pub record PlanGiven (read : ℕ → ℕ → ℕ) (starts calls : List ℕ) : Type 0 where
  pub places : ℕ
  pub legible : Legible places read read
  pub asked : Asked places starts calls

-- what the way home from the stands to the starts is given
pub record HomeGiven (read : ℕ → ℕ → ℕ) (stands starts costs : List ℕ) : Type 0 where
  pub places : ℕ
  pub legible : Legible places read read
  pub asked : Asked places stands []
  pub ending : Position places (length stands) starts
  pub costed : Costed costs

-- a call at r served by a crane of the stands: the figures, and the day that is under way after it
pub record Answered (n : ℕ) (d : ℕ → ℕ → ℕ) (starts calls stands : List ℕ) (r : ℕ) (pick : Option ℕ) (told : Served) (stands' plan' : List ℕ)
    (weights' : List ℤ) (costs' : List ℕ) : Type 0 where
  pub crane : told.crane < length stands
  pub chosen : told.crane ≡ picked pick (choice d n starts calls stands r)
  pub figures : told ≡ served_by d n starts told.crane calls stands r
  pub there : stands' ≡ moved stands r told.crane
  pub kept : Kept n d starts (calls ++ (r ∷ [])) stands' plan' weights' costs'

-- what serving a call at r is given: a day under way over some places and metres, and room for the call
pub record CallGiven (read : ℕ → ℕ → ℕ) (starts calls : List ℕ) (r : ℕ) (pick : Option ℕ) (stands plan : List ℕ) (weights : List ℤ) (costs : List ℕ) : Type 0 where
  pub places : ℕ
  pub metres : ℕ → ℕ → ℕ
  pub roads : Roads places metres read
  pub kept : Kept places metres starts calls stands plan weights costs
  pub on : r < places
  pub space : length calls < most_calls
  pub ends : (e : ℕ) → e < length starts → picked pick e < length starts

-- what serving it delivers, over all places and metres that it may be a day over
pub record CallServed (read : ℕ → ℕ → ℕ) (starts calls : List ℕ) (r : ℕ) (pick : Option ℕ) (stands plan : List ℕ) (weights : List ℤ) (costs : List ℕ)
    (told : Served) (stands' plan' : List ℕ) (weights' : List ℤ) (costs' : List ℕ) : Type 0 where
  pub answered : (n : ℕ) (d : ℕ → ℕ → ℕ) → Roads n d read → Kept n d starts calls stands plan weights costs → r < n
      → Answered n d starts calls stands r pick told stands' plan' weights' costs'
  pub unmoved : Unmoved (stops starts calls) plan weights plan' weights'

-- of each crane what a net cost and the way from the new call tell: w with the call as the last, where that crane goes to it, beside w of
-- the stands; and its drive
pub record Netted (n : ℕ) (d : ℕ → ℕ → ℕ) (starts calls stands : List ℕ) (r : ℕ) (net_end : ℕ → ℕ) (c : ℕ → ℕ → ℕ) : Type 0 where
  pub works : (e : ℕ) → e < length starts
      → work d n starts (calls ++ (r ∷ [])) (moved stands r e) + net_base ≡ work d n starts calls stands + net_end e
  pub ways : (e : ℕ) → e < length starts → c (stops starts calls) e ≡ drive d stands r e

-- what the net costs of a book's cranes are given: a call that may be quoted
pub record QuoteGiven (book : Book) (t : Table) (r : ℕ) (costs : List ℕ) : Type 0 where
  pub places : ℕ
  pub accepted : quote_refusal book places t r ≡ 0
  pub costed : Costed costs

-- the net costs of a book's cranes, and the legs with the call, by which the kept plan costs what it does without it
pub record BookNetted (book : Book) (n : ℕ) (t : Table) (r : ℕ) (nets costs : List ℕ) : Type 0 where
  pub netted : Netted n (metres_of t) (starts_of book) (requests_of book) (stands_of book) r (at nets) (leg_at costs)
  pub present : plan_cost (stops_of book) (leg_at costs) (follower book.plan) ≡ work (metres_of t) n (starts_of book) (requests_of book) (stands_of book)
  pub most : plan_cost (stops_of book) (leg_at costs) (follower book.plan) ≤ most_stops * most_metres
  pub low : (e : ℕ) → e < book.cranes → at nets e ≤ net_base + most_metres
  pub costed : Costed costs

-- what the signed net costs are made of, and room for them
pub record LowerGiven (k : ℕ) (nets : List ℕ) (list : List ℤ) : Type 0 where
  pub netted : k ≤ length nets
  pub listed : k ≤ length list
  pub low : (e : ℕ) → e < k → at nets e ≤ net_base + most_metres

-- m calls served: the figures of each in its array, whose rest is as it was, and the sum of the drives
pub record DayAnswered (m : ℕ) (all : List Served) (cranes metres leasts cranes' metres' leasts' : List ℕ) (driven : ℕ) : Type 0 where
  pub sent : cranes' ≡ up_to m (λ i. (nth all i).crane) ++ drop m cranes
  pub drives : metres' ≡ up_to m (λ i. (nth all i).metres) ++ drop m metres
  pub costs : leasts' ≡ up_to m (λ i. (nth all i).least) ++ drop m leasts
  pub sum : driven ≡ sum_below m (λ i. (nth all i).metres)

-- what serving all calls of a day is given: its cranes before the first call, over some places and metres, and room for the figures
pub record DayGiven (read : ℕ → ℕ → ℕ) (starts requests stands plan : List ℕ) (weights : List ℤ) (costs cranes metres leasts : List ℕ) : Type 0 where
  pub places : ℕ
  pub between : ℕ → ℕ → ℕ
  pub roads : Roads places between read
  pub kept : Kept places between starts [] stands plan weights costs
  pub called : (i : ℕ) → i < length requests → get_or requests i 0 < places
  pub few : length requests ≤ most_calls
  pub sent : length requests ≤ length cranes
  pub driven : length requests ≤ length metres
  pub costed : length requests ≤ length leasts

-- all calls of a day served: their figures, where the cranes stand, and the plan to there
pub record DayDone (n : ℕ) (d : ℕ → ℕ → ℕ) (starts requests stands cranes metres leasts stands' plan' : List ℕ) (weights' : List ℤ)
    (costs' cranes' metres' leasts' : List ℕ) (driven : ℕ) : Type 0 where
  pub figures : DayAnswered (length requests) (serve d n starts [] stands requests) cranes metres leasts cranes' metres' leasts' driven
  pub stood : stands' ≡ stands_after d n starts [] stands requests
  pub kept : Kept n d starts requests stands' plan' weights' costs'
