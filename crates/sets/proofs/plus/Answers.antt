-- `sets::plus` meets its contract: what can end a word can be followed by what begins one.
-- Assumes nothing.
use Rattle.sets.specs.Shapes.{plus_shape}
use Rattle.sets.proofs.plus.Goals as goal

pub returns : goal.returns
unfolding plus_shape
returns c = rw c.link.ensures
