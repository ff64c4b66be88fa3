-- Every case of the table agrees with the definitions, which compute.
-- Assumes nothing.
use mathlib.Core.Bool.{true}
use mathlib.Core.List.{flat_map, head_d}
use mathlib.Core.Path.{◌≡◌, refl}
use Rattle.base.specs.Decimal.{up_to_digits, decimal}
use Rattle.base.specs.Lists.{up_to, splice}
use Rattle.base.specs.Tests.{within, all_below}
use Rattle.road.specs.Table.{leg_count, in_order, metres_of, run_refusal}
use Rattle.dayfile.specs.Codec.{decode, records}
use Rattle.dayfile.specs.Day.{counts_refusal, placed_refusal, day_refusal}
use Rattle.dayfile.specs.File.{day_of, tested, read_file, output_of}
use Rattle.dayfile.specs.Legs.{table_of}
use Rattle.dayfile.specs.Scan.{after_leg, after, length_refusal, bare_refusal, form_refusal, leg_refusal, stop_refusal, crane_refusal, call_refusal, record_refusal, end_refusal, scan}
use Rattle.pairs.specs.Lookup.{pair_at_of, index_of}
use Rattle.workfunction.specs.Lists.{minimum, insertions, permutations, sum_below, filter, least_by, sections}
use Rattle.workfunction.specs.Position.{positions, pairing, distance}
use Rattle.workfunction.specs.Movement.{contains, movements, cost, work, floor}
use Rattle.workfunction.specs.Choice.{narrowed, preferred, drive, move_sum, choice, net_cost}
use Rattle.workfunction.specs.Serving.{served_by, serve, stands_after}
use Rattle.workfunction.specs.Plan.{may_follow, follows, followers_rule, once_rule, plan_rule, slack_rule, vouch_at, vouch_rule, place, leg_cost}
use Rattle.book.specs.Book.{weight_rule, book_refusal, fresh_book, fresh_of}
use Rattle.dispatch.specs.Commit.{tidied, book_after, commit_of}
use Rattle.dispatch.specs.Costs.{costs_of}
use Rattle.dispatch.specs.NetCosts.{nets_of}
use Rattle.dispatch.specs.Quote.{quote_of}
use Rattle.dispatch.specs.ServedDay.{home_of, served_day}
use Rattle.report.specs.Text.{call_line, last_line, call_lines, day_text}
use Rattle.sheet.specs.Row.{aligned, row_bytes, value_of, read_row}
use Rattle.sheet.specs.Sheet.{sheet_rows}
use Rattle.report.specs.Report.{figures_text, sheet_text, print_of, sheet_print_of}
use Rattle.edges.specs.Cases.{cases, same_by, agrees, all_agree}

pub cases_agree : all_agree cases ≡ true
unfolding cases same_by agrees all_agree up_to within all_below leg_count in_order metres_of run_refusal decode records counts_refusal placed_refusal day_refusal day_of tested read_file table_of after_leg after length_refusal bare_refusal form_refusal leg_refusal stop_refusal crane_refusal call_refusal record_refusal end_refusal scan flat_map head_d minimum insertions permutations sum_below filter least_by sections positions pairing distance contains movements cost work floor narrowed preferred drive move_sum choice net_cost served_by serve stands_after may_follow follows followers_rule once_rule plan_rule slack_rule vouch_at vouch_rule place leg_cost weight_rule book_refusal fresh_book fresh_of nets_of quote_of tidied book_after commit_of costs_of home_of served_day up_to_digits decimal call_line last_line call_lines day_text figures_text sheet_text print_of sheet_print_of splice output_of aligned row_bytes value_of read_row sheet_rows pair_at_of index_of
cases_agree = refl
