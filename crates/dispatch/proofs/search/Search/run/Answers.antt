-- `dispatch::search::Search::run` meets its contract: the heads of a plan whose weights vouch for it vouch too, and at first every stop
-- takes the new call. Assumes nothing.
use Prim.Native.Nat.{ℕ, ◌<◌, ◌≤◌}
use mathlib.Core.List.{List}
use mathlib.Core.Path.{◌≡◌}
use borrow.Author.Rules.{rules}
use lib.IntN.{ℤ}
use native.Mathlib.Nat.{le_of_lt}
use native.Mathlib.Omega.{arith}
use Rattle.base.proofs.Tests.{below_at}
use Rattle.road.specs.Table.{most_metres}
use Rattle.workfunction.proofs.Plan.{plan_facts}
use Rattle.book.specs.Book.{follower, weight}
use Rattle.book.specs.Weights.{Weighed}
use Rattle.dispatch.specs.Legs.{leg_at}
use Rattle.dispatch.specs.Search.{at, head_of, Ready, Sized, Witnessed}
use Rattle.dispatch.proofs.search.Heads.{head_high, heads_vouch}
use Rattle.dispatch.proofs.search.Search.run.Goals as goal

module _ {k N : ℕ} {plan : List ℕ} {weights : List ℤ} {costs : List ℕ} (w : Witnessed k N plan weights costs) where
  below : (p : ℕ) → p < N → follower plan p < N
  below = (plan_facts k N (follower plan) w.certified.planned).below

  in_range : Sized N plan costs → Weighed N plan weights
  in_range sized = record {
    followed = record { most = omega arith; planned = le_of_lt sized.planned; weighed = w.weighed; below = below };
    ranged = below_at _ N w.certified.ranged;
  }

  leg : (p b : ℕ) → p < N → b < N → leg_at costs p b ≤ most_metres
  leg p b lt less = w.short p b (le_of_lt lt) (le_of_lt less)

  heads_ready : follower plan N ≡ N → (heads : List ℕ)
      → ((p : ℕ) → p < N → at heads p ≡ head_of (weight weights (follower plan p)) (leg_at costs p (follower plan p)))
      → Ready k N (follower plan) (leg_at costs) (at heads)
  heads_ready self heads filled =
      record {
        most = w.few;
        below = below;
        new = self;
        cost = w.short;
        high = λ p lt. rw (filled p lt) (head_high _ _ (below_at _ N w.certified.ranged _ (below p lt)) (leg p _ lt (below p lt)));
        vouched = λ p q lt less may.
            rw (filled p lt, filled q less)
            (heads_vouch k N (follower plan) (leg_at costs) (weight weights) w.certified.vouched (below_at _ N w.certified.ranged) below leg p q lt less may);
      }

pub heads_of-heads-requires : goal.heads_of-heads-requires
heads_of-heads-requires c = record {
  weighed = in_range c.requires.witnessed c.requires.sized;
  costed = c.requires.sized.costed;
  short = leg c.requires.witnessed;
}

pub rounds-requires : goal.rounds-requires
rounds-requires c = record {
  headed = search rules;
  sized = c.requires.sized;
  ready = heads_ready c.requires.witnessed c.requires.self _ c.heads_of-heads.ensures;
  begun = c.begin.ensures;
}

pub returns : goal.returns
returns c = c.rounds.ensures
