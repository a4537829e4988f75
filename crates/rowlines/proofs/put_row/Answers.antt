-- `rowlines::put_row` meets its contract: the refusal's line, or those of the reports.
-- Assumes nothing.
use Rattle.std.proofs.Common.{rules}
use Rattle.rowlines.specs.RowLinesLaws.{text_refused, text_reports}
use Rattle.rowlines.proofs.put_row.Goals as goal

pub returns-in-0 : goal.returns-in-0
returns-in-0 c = search (rules, text_reports)

pub returns-in_default : goal.returns-in_default
returns-in_default c = search (rules, text_refused)
