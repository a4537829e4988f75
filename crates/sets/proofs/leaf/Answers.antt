-- `sets::leaf` meets its contract: the name's number is the one at which its word begins and ends.
-- Assumes nothing.
use Rattle.sets.specs.ShapesLaws.{leaf_shape}
use Rattle.sets.proofs.leaf.Goals as goal

pub returns : goal.returns
returns c = leaf_shape _ _ c.requires.0 c.requires.1
