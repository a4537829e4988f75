-- `settling::settle` meets its contract: the row is dropped, or it moves down and its new state is written.
-- Assumes nothing.
use Rattle.settling.specs.SettlingLaws.{row_drops, row_goes}
use borrow.Author.Rules.{rules}
use Rattle.settling.proofs.settle.Goals as goal

pub returns-then-not-is_hopeful : goal.returns-then-not-is_hopeful
returns-then-not-is_hopeful c = search (rules, row_drops)

pub returns : goal.returns
returns c = search (rules, row_goes)
