-- `hopes::ways` meets its contract: the bits found so far are the states that the events gone through lead to.
-- Assumes nothing.
use Rattle.hopes.specs.LeadsLaws.{ways_none, ways_held, ways_other, ways_all}
use borrow.Author.Rules.{rules}
use Rattle.hopes.proofs.ways.Goals as goal
use Rattle.hopes.proofs.ways.Goals.{then-has, else-has}

pub loop-e-init : goal.loop-e-init
loop-e-init c = ways_none _ _ _

pub loop-e-preserved : goal.loop-e-preserved
loop-e-preserved c = elim c.if-has.branch [
  | then-has w ↦ rw w.found-is (ways_held _ _ _ _ _ _ _ _ c.loop-e.invariant w.from.ensures c.has.ensures w.if-has.true w.only-found.ensures)
  | else-has w ↦ search (rules, ways_other)
]

pub returns : goal.returns
returns c = search (rules, ways_all)
