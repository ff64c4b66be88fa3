-- `legorder::fill::legs_to` meets its contract: the loop writes the places of the legs to v one behind another.
-- Assumes nothing.
use Prim.Native.Nat.{ℕ}
use Rattle.base.specs.Lists.{up_to}
use Rattle.base.proofs.Lists.{Spliced}
use Rattle.legorder.proofs.fill.legs_to.Given as goal

abbrev pub invariant-loop-u : goal.invariant-loop-u
invariant-loop-u l = Spliced (λ i. up_to i (λ (j : ℕ). j)) l.from l.initial.firsts l.v l.firsts l.u × Spliced (λ i. up_to i (λ (j : ℕ). l.v)) l.from l.initial.seconds l.v l.seconds l.u
