-- `report::print` meets its contract: the text of the file in lines.
-- Assumes nothing.
use borrow.Author.Rules.{rules}
use mathlib.Core.Path.{◌≡◌}
use Rattle.report.specs.Report.{lines_text, print_of, printed}
use Rattle.report.proofs.Outputs.{print_fits, text_within}
use Rattle.report.proofs.print.Goals as goal

pub returns : goal.returns
unfolding print_of
returns c =
    let told : c.of_file.new.print ≡ printed (print_of c.args.file.now) = c.of_file.ensures lines_text (λ day table lent r after k. search rules) in
    record {
      value = told;
      prefix_len = text_within c.of_file.new.print (print_of c.args.file.now) told (print_fits _);
    }
