-- `moves::Known::next_state` meets its contract: the number at its place.
-- Assumes nothing.
use Rattle.moves.specs.Steps.{step_of}
use borrow.Author.Rules.{rules}
use Rattle.moves.proofs.Known.next_state.Goals as goal

pub returns : goal.returns
unfolding step_of
returns c = search rules
