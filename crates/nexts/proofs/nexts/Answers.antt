-- `nexts::nexts` meets its contract: what was found so far is what can come next after the numbers looked at.
-- Assumes nothing.
use Rattle.nexts.specs.NextsLaws.{nexts_none, nexts_held, nexts_nothing}
use borrow.Author.Rules.{rules}
use Rattle.nexts.proofs.nexts.Goals as goal
use Rattle.nexts.proofs.nexts.Goals.{then-has, else-has}

pub loop-k-init : goal.loop-k-init
loop-k-init c = nexts_none _ _

pub loop-k-preserved : goal.loop-k-preserved
loop-k-preserved c = elim c.if-has.branch [
  | then-has w ↦ search (rules, nexts_held)
  | else-has w ↦ search (rules, nexts_nothing)
]
