-- `dayfile::codec::put` meets its contract: the record's bytes are copied into their part of the buffer.
-- Assumes nothing.
use mathlib.Core.Path.{◌∙◌}
use Rattle.base.proofs.Lists.{copied}
use Rattle.dayfile.specs.Codec.{encode}
use Rattle.dayfile.proofs.codec.put.Goals as goal

pub returns : goal.returns
unfolding encode
returns c = copied (encode c.args.r) c.args.out.now _ c.args.at (c.copy_from_slice.ensures.after ∙ c.bytes_of.ensures)
