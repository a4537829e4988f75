-- `judge::kept_stands` meets its contract: it is what both tables are asked.
-- Assumes nothing.
use Rattle.judge.specs.SoundLaws.{ordered_fits, kept_unordered, kept_clean}
use borrow.Author.Rules.{rules}
use Rattle.judge.proofs.kept_stands.Goals as goal

pub rows_clean-requires : goal.rows_clean-requires
rows_clean-requires c = search (rules, ordered_fits)

pub returns-then-rows_ordered : goal.returns-then-rows_ordered
returns-then-rows_ordered c = search (rules, kept_clean)

pub returns-else-rows_ordered : goal.returns-else-rows_ordered
returns-else-rows_ordered c = search (rules, kept_unordered)
