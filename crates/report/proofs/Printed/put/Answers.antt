-- `report::Printed::put` meets its contract: what is copied into the part of the text is written into the text.
-- Assumes nothing.
use mathlib.Core.Path.{refl}
use Rattle.base.proofs.Lists.{copied}
use Rattle.report.proofs.Printed.put.Goals as goal

pub returns : goal.returns
returns c = record { buffer = copied c.args.bytes.now c.args.self.now.text _ c.args.self.now.length c.copy_from_slice.ensures.after; behind = refl }
