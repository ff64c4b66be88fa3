-- `dayfile::codec::read` meets its contract: each field is read at its own bytes.
-- Assumes nothing.
use Rattle.dayfile.proofs.codec.Laws.{decoded}
use Rattle.dayfile.proofs.codec.read.Goals as goal

pub returns : goal.returns
returns c = decoded c.args.bytes.now c.args.at _ _ _ _ c.from_le_bytes.ensures c.from_le_bytes-2.ensures c.from_le_bytes-3.ensures c.from_le_bytes-4.ensures
