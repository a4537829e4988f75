-- `hopes::hopeful` meets its contract: the states asked for are marked, and every declared event is among those allowed.
-- Assumes nothing.
use Rattle.hopes.specs.LeadsLaws.{hopes_of}
use borrow.Author.Rules.{rules}
use Rattle.hopes.proofs.hopeful.Goals as goal

pub returns : goal.returns
returns c = search (rules, hopes_of)
