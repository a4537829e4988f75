-- `advance::advance` meets its contract: the rows that move in place, then the pass over the others.
-- Assumes nothing.
use Rattle.advance.specs.PassLaws.{movable_of}
use Rattle.advance.specs.AdvanceLaws.{passable_of, advance_in_place, advance_on}
use borrow.Author.Rules.{rules}
use Rattle.advance.proofs.advance.Goals as goal

pub move_in_place-w-requires : goal.move_in_place-w-requires
move_in_place-w-requires c = search (rules, movable_of)

pub returns-then-w : goal.returns-then-w
returns-then-w c = search (rules, advance_in_place)

pub pass_on-requires : goal.pass_on-requires
pass_on-requires c = search (rules, passable_of)

pub returns : goal.returns
returns c = search (rules, advance_on)
