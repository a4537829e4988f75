-- `growing::grow` meets its contract: the states left to go through add what the definition's turns add.
-- Assumes nothing.
use Rattle.growing.specs.GrowLaws.{growing_begin, growing_over, growing_turn, growing_end}
use Rattle.growing.specs.RowLaws.{over_first, row_first}
use borrow.Author.Rules.{rules}
use Rattle.growing.proofs.grow.Goals as goal

pub loop-i-init : goal.loop-i-init
loop-i-init c = growing_begin _ _ _ _ c.requires

pub returns-in_err-row : goal.returns-in_err-row
returns-in_err-row c = rw c.from_residual.ensures (growing_over _ _ _ _ _ _ _ _ c.loop-i.invariant _ c.loop-i-test.true c.moves-to.ensures (over_first _ _ (search rules) c.loop-i.grown c.in_err-row.ensures))

pub loop-i-preserved : goal.loop-i-preserved
loop-i-preserved c = growing_turn _ _ _ _ _ _ _ _ c.loop-i.invariant _ _ c.loop-i-test.true c.moves-to.ensures (row_first _ _ (search rules) _ _ _ c.in_ok-row.ensures)

pub returns : goal.returns
returns c = growing_end _ _ _ _ _ _ _ _ c.loop-i.invariant c.loop-i-test.false
