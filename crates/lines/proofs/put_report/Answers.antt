-- `lines::put_report` meets its contract.
-- Assumes nothing.
use Rattle.lineparts.specs.LinesLaws.{report_written}
use borrow.Author.Rules.{rules}
use Rattle.lines.proofs.put_report.Goals as goal

pub returns : goal.returns
returns c = search (rules, report_written)
