-- `dispatch::Dispatch::commit` meets its contract: a refusal goes with 0 and the book as it was given, else the crane is sent.
-- Assumes nothing.
use Prim.Native.Nat.{ℕ}
use mathlib.Core.Path.{◌≡◌, refl, sym, ◌∙◌}
use Rattle.std.specs.Prelude.{Result, IsErrAnd}
use Rattle.base.specs.declared.Refusal.{Refusal}
use Rattle.base.specs.Numbers.{refusal_number}
use Rattle.base.proofs.Numbers.{refused_number, told_up, told_ok}
use Rattle.road.specs.Table.{Table}
use Rattle.book.specs.declared.Book.{Book}
use Rattle.dispatch.specs.declared.Commit.{Commit}
use Rattle.dispatch.specs.Commit.{commit_refusal, committed, commit_of, Next}
use Rattle.dispatch.proofs.Dispatch.commit.Goals as goal

refused : (book : Book) (n : ℕ) (t : Table) (r s : ℕ) (o : Result Commit Refusal) (x : Refusal) → IsErrAnd o (λ y. y ≡ x)
    → refusal_number x ≡ commit_refusal book n t r s
    → (committed book o ≡ commit_of book n t r s (committed book o).book.plan (committed book o).book.weights)
    × (commit_refusal book n t r s ≡ 0 → Next (committed book o).book n t)
unfolding commit_of
refused book n t r s o x h e = (told_up (committed book) o x _ _ _ h e refl, λ z. absurd (refused_number x (e ∙ z)))

pub returns-in_err-test : goal.returns-in_err-test
returns-in_err-test c = refused _ _ _ _ _ _ _ c.from_residual.ensures.1 c.in_err-test.ensures

pub accepted-requires : goal.accepted-requires
accepted-requires c = (_, sym c.in_ok-test.ensures)

pub returns : goal.returns
unfolding commit_of
returns c = let e = c.accepted.ensures _ (sym c.in_ok-test.ensures) in
    (told_ok _ _ _ _ c.in_ok-test.ensures e.0, λ z. e.1)
