-- What the list of net costs is, for every input.
use Rattle.std.specs.Prelude.{ℕ, List, ℤ, pos, replicate, Result, Ok, Err}
use Rattle.base.specs.Lists.{padded}
use Rattle.base.specs.declared.Refusal.{Refusal}
use Rattle.base.specs.Numbers.{refusal_number, unless_refused}
use Rattle.road.specs.Table.{Table, metres_of}
use Rattle.dayfile.specs.Day.{most_cranes}
use Rattle.workfunction.specs.Choice.{net_cost}
use Rattle.book.specs.declared.Book.{Book}
use Rattle.book.specs.Book.{starts_of, stands_of, requests_of}
use Rattle.dispatch.specs.Quote.{quote_refusal}

-- the number, 0 where the list is told; the list
pub record NetList : Type 0 where
  pub number : ℕ
  pub nets : List ℤ

abbrev pub net_list : Result (List ℤ) Refusal → NetList
net_list (Ok nets) = record { number = 0; nets = nets }
net_list (Err r) = record { number = refusal_number r; nets = replicate most_cranes (pos 0) }

-- paper 4: "for each crane, by number, 0 past the cranes"
abbrev pub nets_by_crane : Book → ℕ → Table → ℕ → List ℤ
nets_by_crane book n t r =
    padded most_cranes book.cranes (net_cost (metres_of t) n (starts_of book) (requests_of book) (stands_of book) r) (pos 0)

-- what the net costs of a call at r are: "refused as a quote is"; "other results 0"
unfoldable pub nets_of : Book → ℕ → Table → ℕ → NetList
nets_of book n t r =
    unless_refused (quote_refusal book n t r) (record { number = 0; nets = nets_by_crane book n t r })
    (λ m. record { number = m; nets = replicate most_cranes (pos 0) })
