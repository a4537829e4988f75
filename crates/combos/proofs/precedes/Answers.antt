-- `combos::precedes` meets its contract: what is left from each number on precedes if the whole does.
-- Assumes nothing.
use Rattle.slices.specs.NumbersLaws.{ordered_begins, ordered_turn, ordered_ends}
use Rattle.combos.specs.LibraryLaws.{ordered_apart}
use borrow.Author.Rules.{rules}
use Rattle.combos.proofs.precedes.Goals as goal

pub loop-j-init : goal.loop-j-init
loop-j-init c = search (rules, ordered_begins)

pub returns-then-c-j : goal.returns-then-c-j
returns-then-c-j c = search (rules, ordered_apart)

pub loop-j-preserved : goal.loop-j-preserved
loop-j-preserved c = search (rules, ordered_turn)

pub returns : goal.returns
returns c = search (rules, ordered_ends)
