-- `moves::is_new` meets its contract: by whether it is empty, then whether it is seen.
-- Assumes nothing.
use Rattle.moves.specs.ReadyLaws.{new_empty, new_seen}
use borrow.Author.Rules.{rules}
use Rattle.moves.proofs.is_new.Goals as goal

pub returns-then-not-is_empty : goal.returns-then-not-is_empty
returns-then-not-is_empty c = search (rules, new_seen)

pub returns-else-not-is_empty : goal.returns-else-not-is_empty
returns-else-not-is_empty c = search (rules, new_empty)
