-- The definitions compute: days with what becomes of them, plans and weights with what their rules say. The cases of document 01
-- stand in `edges`.
-- Assumes nothing.
use Prim.Native.Nat.{ℕ}
use mathlib.Core.Bool.{Bool, true, false}
use mathlib.Core.List.{List, [], ◌∷◌, map, flat_map, head_d}
use mathlib.Core.Path.{◌≡◌, refl}
use lib.IntN.{ℤ, pos, neg_ℤ}
use lib.ListN.{length, get_or}
use Rattle.base.specs.Lists.{up_to}
use Rattle.base.specs.Tests.{all_below}
use Rattle.workfunction.specs.Lists.{minimum, insertions, permutations, sum_below, filter, least_by, sections}
use Rattle.workfunction.specs.Position.{positions, pairing, distance}
use Rattle.workfunction.specs.Movement.{contains, movements, cost, work, floor}
use Rattle.workfunction.specs.Choice.{narrowed, preferred, drive, move_sum, choice, net_cost}
use Rattle.workfunction.specs.Serving.{Served, served_by, serve}
use Rattle.workfunction.specs.Plan.{may_follow, follows, followers_rule, once_rule, plan_rule, slack_rule, vouch_at, vouch_rule, plan_cost, place, leg_cost, plans as plan_lists, least_plan}

-- three places, by the legs (0,1), (0,2), (1,2)
abbrev three : ℕ → ℕ → ℕ → List (List ℕ)
three a b c = (0 ∷ a ∷ b ∷ []) ∷ (a ∷ 0 ∷ c ∷ []) ∷ (b ∷ c ∷ 0 ∷ []) ∷ []

-- place 3 is another gate of place 1: 0 metres from it, and as far as it from the others
abbrev gates : List (List ℕ)
gates = (0 ∷ 1 ∷ 2 ∷ 1 ∷ []) ∷ (1 ∷ 0 ∷ 2 ∷ 0 ∷ []) ∷ (2 ∷ 2 ∷ 0 ∷ 2 ∷ []) ∷ (1 ∷ 0 ∷ 2 ∷ 0 ∷ []) ∷ []

abbrev metres : List (List ℕ) → ℕ → ℕ → ℕ
metres rows u v = get_or (get_or rows u []) v 0

-- ---- days, served from a fresh book

abbrev served : ℕ → ℕ → ℕ → Served
served s m w = record { crane = s; metres = m; least = w }

-- the road table's rows, the starts and the calls; what is returned for each call, and the floor after the last
pub data Day : Type 0 where
  day : List (List ℕ) → List ℕ → List ℕ → List Served → ℕ → Day

unfoldable pub days : List Day
days =
    -- at the last call crane 1 is nearer, crane 0 goes, and the least falls
    day (three 3 5 4) (2 ∷ 1 ∷ []) (0 ∷ 1 ∷ 0 ∷ []) (served 1 3 3 ∷ served 1 3 6 ∷ served 0 5 5 ∷ []) 10 ∷
    -- a day without calls
    day (three 10 20 15) (0 ∷ 2 ∷ []) [] [] 0 ∷
    -- at the last call both cranes give 4, and crane 1 drives less
    day (three 1 2 2) (2 ∷ 0 ∷ []) (1 ∷ 0 ∷ 1 ∷ []) (served 1 1 1 ∷ served 1 1 2 ∷ served 1 1 3 ∷ []) 4 ∷
    -- the same with the last call at the other gate
    day gates (2 ∷ 0 ∷ []) (1 ∷ 0 ∷ 3 ∷ []) (served 1 1 1 ∷ served 1 1 2 ∷ served 1 1 3 ∷ []) 4 ∷
    -- a call at a gate: crane 0 stands at the other gate, and crane 1 at the very place; both give 0 and drive 0
    day (three 0 5 5) (1 ∷ 0 ∷ []) (0 ∷ []) (served 0 0 0 ∷ []) 0 ∷
    []

unfoldable pub found : Day → List Served × ℕ
found (day rows starts calls _ _) =
    (serve (metres rows) (length rows) starts [] starts calls, floor (metres rows) (length rows) starts calls)

unfoldable pub told : Day → List Served × ℕ
told (day _ _ _ lines lowest) = (lines, lowest)

pub days_agree : map found days ≡ map told days
unfolding days found told up_to minimum insertions permutations filter least_by sections positions pairing distance contains movements cost work floor flat_map head_d drive move_sum narrowed preferred choice served_by serve
days_agree = refl

-- where steps out of stands count: starts 2, 0, 0 and calls 1 and 0 leave the cranes at 1, 0, 0, and a call at 2 is crane 1's
pub out_of_stands : choice (metres (three 3 1 3)) 3 (2 ∷ 0 ∷ 0 ∷ []) (1 ∷ 0 ∷ []) (1 ∷ 0 ∷ 0 ∷ []) 2 ≡ 1
unfolding up_to minimum insertions permutations filter least_by sections positions pairing distance contains movements cost work flat_map head_d drive move_sum narrowed preferred choice
out_of_stands = refl

-- "With no calls [..] w(stands) is the distance from starts to stands": from 0 and 2 to 1 and 0 one crane moves, by 15
pub no_calls : work (metres (three 10 20 15)) 3 (0 ∷ 2 ∷ []) [] (1 ∷ 0 ∷ []) ≡ 15
unfolding up_to minimum insertions permutations filter sections positions pairing distance contains movements cost work flat_map
no_calls = refl

-- paper 4: "At call 2 of case A it is 10, then −5": starts 0 and 2, calls 1 and 0, and the cranes at 0 and 2 again
pub case_a_nets : up_to 2 (net_cost (metres (three 10 20 15)) 3 (0 ∷ 2 ∷ []) (1 ∷ 0 ∷ []) (0 ∷ 2 ∷ []) 1) ≡ pos 10 ∷ neg_ℤ (pos 5) ∷ []
unfolding up_to minimum insertions permutations filter sections positions pairing distance contains movements cost work flat_map net_cost
case_a_nets = refl

-- ---- plans

abbrev at : List ℕ → ℕ → ℕ
at l i = get_or l i 0

-- the number of cranes and the followers of all stops; whether it is a plan
pub data Followers : Type 0 where
  plan : ℕ → List ℕ → Bool → Followers

unfoldable pub plans : List Followers
plans =
    -- case A after its last call
    plan 2 (3 ∷ 2 ∷ 4 ∷ 0 ∷ 1 ∷ []) true ∷
    -- a fresh book
    plan 2 (0 ∷ 1 ∷ []) true ∷
    -- a stand that follows two stops
    plan 2 (0 ∷ 0 ∷ []) false ∷
    -- a follower out of range
    plan 2 (0 ∷ 2 ∷ []) false ∷
    -- the second call followed by the first
    plan 1 (2 ∷ 0 ∷ 1 ∷ []) false ∷
    -- a call that follows itself
    plan 1 (0 ∷ 1 ∷ []) false ∷
    []

unfoldable pub planned : Followers → Bool
planned (plan k f _) = plan_rule k (length f) (at f)

unfoldable pub ruled : Followers → Bool
ruled (plan _ _ rule) = rule

pub plans_agree : map planned plans ≡ map ruled plans
unfolding plans planned ruled plan_rule followers_rule once_rule may_follow follows sum_below all_below
plans_agree = refl

-- ---- weights, on case A's table

-- the costs of legs, the number of cranes, the followers and the weights; the plan's cost, and whether the weights vouch
pub data Weights : Type 0 where
  weights : (ℕ → ℕ → ℕ) → ℕ → List ℕ → List ℤ → ℕ → Bool → Weights

abbrev minus : ℕ → ℤ
minus n = neg_ℤ (pos n)

abbrev legs : List ℕ → List ℕ → ℕ → ℕ → ℕ
legs calls stands = leg_cost (metres (three 10 20 15)) (0 ∷ 2 ∷ []) calls stands

unfoldable pub witnesses : List Weights
witnesses =
    -- case A after its second call and after its last
    weights (legs (1 ∷ 0 ∷ []) (0 ∷ 2 ∷ [])) 2 (2 ∷ 1 ∷ 3 ∷ 0 ∷ []) (minus 10 ∷ minus 5 ∷ pos 0 ∷ minus 10 ∷ []) 20 true ∷
    weights (legs (1 ∷ 0 ∷ 1 ∷ []) (0 ∷ 1 ∷ [])) 2 (3 ∷ 2 ∷ 4 ∷ 0 ∷ 1 ∷ []) (pos 0 ∷ pos 0 ∷ pos 0 ∷ pos 0 ∷ pos 0 ∷ []) 15 true ∷
    -- its floor: the ends are the starts
    weights (legs (1 ∷ 0 ∷ 1 ∷ []) (0 ∷ 2 ∷ [])) 2 (3 ∷ 2 ∷ 4 ∷ 0 ∷ 1 ∷ []) (minus 20 ∷ minus 15 ∷ pos 0 ∷ pos 0 ∷ minus 10 ∷ []) 30 true ∷
    -- no calls, and cranes that have changed places: not least, and only the stands can tell
    weights (legs [] (2 ∷ 0 ∷ [])) 2 (0 ∷ 1 ∷ []) (pos 0 ∷ pos 0 ∷ []) 40 false ∷
    []

unfoldable pub vouched : Weights → ℕ × Bool
vouched (weights c k f y _ _) = (plan_cost (length f) c (at f), vouch_rule k (length f) (at f) c (λ b. get_or y b (pos 0)))

unfoldable pub weighed : Weights → ℕ × Bool
weighed (weights _ _ _ _ cost rule) = (cost, rule)

pub witnesses_agree : map vouched witnesses ≡ map weighed witnesses
unfolding witnesses vouched weighed plan_cost vouch_rule vouch_at slack_rule may_follow leg_cost place sum_below all_below
witnesses_agree = refl

-- ---- the least of all plans

-- one crane and one call: the call follows the start, and the stand the call
pub all_plans : plan_lists 1 2 ≡ (1 ∷ 0 ∷ []) ∷ []
unfolding plan_lists plan_rule followers_rule once_rule may_follow follows sum_below all_below up_to filter sections flat_map
all_plans = refl

-- case A with its ends at the starts, and at its last stands
pub least_plans : least_plan 2 5 (legs (1 ∷ 0 ∷ 1 ∷ []) (0 ∷ 2 ∷ [])) ∷ least_plan 2 5 (legs (1 ∷ 0 ∷ 1 ∷ []) (0 ∷ 1 ∷ [])) ∷ [] ≡ 30 ∷ 15 ∷ []
unfolding least_plan plan_lists plan_rule followers_rule once_rule may_follow follows sum_below all_below up_to filter sections flat_map minimum plan_cost leg_cost place
least_plans = refl
