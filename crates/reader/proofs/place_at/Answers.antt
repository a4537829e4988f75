-- `reader::place_at` meets its contract: past the log's end there is no row, and where a row ends, the same row follows it.
-- Assumes nothing.
use Rattle.reader.specs.HandingLaws.{place_none, place_row}
use borrow.Author.Rules.{rules}
use Rattle.reader.proofs.place_at.Goals as goal

pub returns-then-log-at : goal.returns-then-log-at
returns-then-log-at c = search (rules, place_none)

pub returns : goal.returns
returns c = search (rules, place_row)
