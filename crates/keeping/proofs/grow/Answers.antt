-- `keeping::grow` meets its contract: the rows from the place reached on are grown, those below are as they were.
-- Assumes nothing.
use Rattle.keeping.specs.GrowLaws.{growing_begins, growing_ready, growing_turn, growing_ends}
use borrow.Author.Rules.{rules}
use Rattle.keeping.proofs.grow.Goals as goal

pub loop-i-init : goal.loop-i-init
loop-i-init c = search (rules, growing_begins)

pub grow_row-count-requires : goal.grow_row-count-requires
grow_row-count-requires c = search (rules, growing_ready)

pub loop-i-preserved : goal.loop-i-preserved
loop-i-preserved c = search (rules, growing_turn)

pub returns : goal.returns
returns c = search (rules, growing_ends)
