-- `hopes::those` meets its contract: the bits found so far are the numbers gone through that pass.
-- Assumes nothing.
use Rattle.hopes.specs.LeadsLaws.{those_held, those_other}
use Rattle.hopes.proofs.those.Goals as goal
use Rattle.hopes.proofs.those.Goals.{then-test, else-test}

pub loop-s-preserved : goal.loop-s-preserved
loop-s-preserved g c = elim c.if-test.branch [
  | then-test w ↦ rw w.found-is (those_held _ _ _ _ c.loop-s.invariant (rw w.if-test.true at c.test.ensures) w.only-found.ensures)
  | else-test w ↦ rw w.found-is (those_other _ _ _ c.loop-s.invariant (rw w.if-test.false at c.test.ensures))
]
