-- `nexts::moves` meets its contract: the events gone through have their sets.
-- Assumes nothing.
use Rattle.sets.specs.ShapesLaws.{filled_none, filled_more, filled_all}
use mathlib.Core.Path.{refl}
use Rattle.nexts.specs.Nexts.{moves_of}
use borrow.Author.Rules.{rules}
use Rattle.nexts.proofs.moves.Goals as goal

pub loop-e-init : goal.loop-e-init
loop-e-init c = (c.nexts-reach.ensures, filled_none refl)

pub loop-e-preserved : goal.loop-e-preserved
loop-e-preserved c = (c.loop-e.invariant.0, filled_more c.loop-e.invariant.1 (search rules) (rw c.loop-e.invariant.0))

pub returns : goal.returns
unfolding moves_of
returns c = filled_all c.loop-e.invariant.1 (search rules)
