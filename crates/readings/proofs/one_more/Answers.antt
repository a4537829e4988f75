-- `readings::one_more` meets its contract: the event goes to the place after the last.
-- Assumes nothing.
use Rattle.readings.specs.Readings.{one_more}
use borrow.Author.Rules.{rules}
use Rattle.readings.proofs.one_more.Goals as goal

pub returns : goal.returns
unfolding one_more
returns c = search rules
