-- `hopes::asks_for` meets its contract: undecided is never asked for, and a set of 8 bits asks for no verdict past 8.
-- Assumes nothing.
use Rattle.hopes.specs.LeadsLaws.{asks_at}
use borrow.Author.Rules.{rules}
use Rattle.hopes.proofs.asks_for.Goals as goal

pub returns-in-1-to-8 : goal.returns-in-1-to-8
returns-in-1-to-8 c = asks_at _ _ _ _ _ (search rules) c.from.ensures c.from-in-1-to-8.ensures c.has.ensures
