-- `report::print_sheet` meets its contract: the text of the file in rows.
-- Assumes nothing.
use borrow.Author.Rules.{rules}
use mathlib.Core.Path.{◌≡◌}
use Rattle.report.specs.Report.{sheet_text, sheet_print_of, printed}
use Rattle.report.proofs.Outputs.{sheet_fits, text_within}
use Rattle.report.proofs.print_sheet.Goals as goal

pub returns : goal.returns
unfolding sheet_print_of
returns c =
    let told : c.of_file.new.print ≡ printed (sheet_print_of c.args.file.now) = c.of_file.ensures sheet_text (λ day table lent r after k. search rules) in
    record {
      value = told;
      prefix_len = text_within c.of_file.new.print (sheet_print_of c.args.file.now) told (sheet_fits _);
    }
