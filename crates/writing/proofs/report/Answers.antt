-- `writing::report` meets its contract: the reports of the rows passed are put in in order.
-- Assumes nothing.
use Rattle.writing.specs.ReportLaws.{reporting_begins, reporting_ready, reporting_turn, reporting_ends}
use borrow.Author.Rules.{rules}
use Rattle.writing.proofs.report.Goals as goal

pub loop-i-init : goal.loop-i-init
loop-i-init c = search (rules, reporting_begins)

pub report_row-count-requires : goal.report_row-count-requires
report_row-count-requires c = search (rules, reporting_ready)

pub loop-i-preserved : goal.loop-i-preserved
loop-i-preserved c = search (rules, reporting_turn)

pub returns : goal.returns
returns c = search (rules, reporting_ends)
