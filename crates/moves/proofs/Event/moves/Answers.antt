-- `moves::Event::moves` meets its contract: in place, or as a new combination.
-- Assumes nothing.
use Rattle.moves.specs.ReadyLaws.{moves_in_place}
use borrow.Author.Rules.{rules}
use Rattle.moves.proofs.Event.moves.Goals as goal

pub returns-then-includes : goal.returns-then-includes
returns-then-includes c = search (rules, moves_in_place)
