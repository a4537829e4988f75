-- `sets::star` meets its contract: what can end a word can be followed by what begins one.
-- Assumes nothing.
use Rattle.sets.specs.Shapes.{star_shape}
use Rattle.sets.proofs.star.Goals as goal

pub returns : goal.returns
unfolding star_shape
returns c = rw c.link-follow.ensures
