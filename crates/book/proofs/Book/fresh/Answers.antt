-- `book::Book::fresh` meets its contract: a refusal of the day is handed up.
-- Assumes nothing.
use Rattle.book.proofs.FreshBook.{refused}
use Rattle.book.proofs.Book.fresh.Goals as goal

pub returns-in_err-test : goal.returns-in_err-test
returns-in_err-test c = refused _ _ _ _ c.from_residual.ensures.1 c.in_err-test.ensures
