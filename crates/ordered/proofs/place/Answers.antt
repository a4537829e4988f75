-- `ordered::place` meets its contract: the rows below the low end precede, those from the high end on do not.
-- Assumes nothing.
use Rattle.ordered.specs.RowsLaws.{searching_begins, searching_up, searching_down, searching_ends}
use borrow.Author.Rules.{rules}
use Rattle.ordered.proofs.place.Goals as goal

pub loop-low-init : goal.loop-low-init
loop-low-init c = search (rules, searching_begins)

pub loop-low-preserved-then-precedes : goal.loop-low-preserved-then-precedes
loop-low-preserved-then-precedes c =
    searching_up _ _ _ _ _ _ _ _ _ _ c.loop-low.invariant (search rules) (search rules) c.row_at.ensures c.precedes.ensures c.if-precedes.true

pub loop-low-preserved : goal.loop-low-preserved
loop-low-preserved c =
    searching_down _ _ _ _ _ _ _ _ _ _ c.loop-low.invariant (search rules) (search rules) c.row_at.ensures c.precedes.ensures c.if-precedes.false

pub returns : goal.returns
returns c = search (rules, searching_ends)
