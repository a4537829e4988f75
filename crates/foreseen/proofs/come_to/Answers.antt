-- `foreseen::come_to` meets its contract: the rows are counted.
-- Assumes nothing.
use Rattle.foreseen.specs.ForeseenLaws.{counts_are}
use Rattle.foreseen.proofs.come_to.Goals as goal

pub returns : goal.returns
returns c = counts_are _ _ _ _ _ _ _ _ _ _ _ _ c.is_new-fresh.ensures c.from.ensures c.tally-w.ensures
