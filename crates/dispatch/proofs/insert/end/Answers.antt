-- `dispatch::insert::end` meets its contract: the end given, or the one chosen. Assumes nothing.
use Rattle.dispatch.proofs.insert.end.Goals as goal

pub returns-in_default : goal.returns-in_default
returns-in_default c = rw c.in_default.is c.choose.ensures
