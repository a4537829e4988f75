-- `rows::next_row` meets its contract: a row that does not reach the text's end has a line end of two bytes.
-- Assumes nothing.
use Rattle.std.proofs.Common.{rules}
use Rattle.rows.specs.RowsLaws.{next_more, next_none}
use Rattle.rows.proofs.next_row.Goals as goal

pub returns-then-end-s : goal.returns-then-end-s
returns-then-end-s c = search (rules, next_more)

pub returns-else-end-s : goal.returns-else-end-s
returns-else-end-s c = search (rules, next_none)
