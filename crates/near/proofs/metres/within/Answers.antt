-- `near::metres::within` meets its contract: the metres that are at most the distance are counted. Assumes nothing.
use mathlib.Core.Path.{◌≡◌, ◌∙◌}
use borrow.Author.Rules.{rules}
use lib.Dec.{leb}
use Rattle.std.specs.List.{count_by}
use Rattle.near.proofs.Count.{count_list}
use Rattle.near.proofs.metres.within.Goals as goal

pub returns : goal.returns
returns c =
    let counted : c.count.result ≡ count_by (λ m. leb m c.args.distance) c.args.metres.now = search rules in
    counted ∙ count_list _ c.args.metres.now
