-- `writing::report_row` meets its contract: the report of the row, if it makes one, is put in in order.
-- Assumes nothing.
use Rattle.moves.specs.ReadyLaws.{row_joint, row_onward}
use Rattle.writing.specs.ReportLaws.{report_not, report_unasked, report_enterable, report_put}
use borrow.Author.Rules.{rules}
use Rattle.writing.proofs.report_row.Goals as goal

pub moves-requires : goal.moves-requires
moves-requires c = (search rules, search (rules, row_joint))

pub returns-then-not-moves : goal.returns-then-not-moves
returns-then-not-moves c = search (rules, report_not)

pub is_asked-requires : goal.is_asked-requires
is_asked-requires c = search (rules, row_onward)

pub returns-then-not-is_asked : goal.returns-then-not-is_asked
returns-then-not-is_asked c = search (rules, report_unasked)

pub verdict-requires : goal.verdict-requires
verdict-requires c = search (rules, row_onward)

pub enter-requires : goal.enter-requires
enter-requires c = search (rules, report_enterable)

pub returns : goal.returns
returns c = search (rules, report_put)
