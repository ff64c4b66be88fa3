-- `dayfile::codec::bytes_of` meets its contract: the bytes of the fields stand one behind another.
-- Assumes nothing.
use Rattle.dayfile.specs.Codec.{encode}
use Rattle.dayfile.proofs.codec.Laws.{bytes_told}
use Rattle.dayfile.proofs.codec.bytes_of.Goals as goal

pub returns : goal.returns
unfolding encode
returns c = rw (c.to_le_bytes.ensures, c.to_le_bytes-2.ensures, c.to_le_bytes-3.ensures, c.to_le_bytes-4.ensures, ← bytes_told c.args.r.metres)
