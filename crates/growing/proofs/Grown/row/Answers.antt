-- `growing::Grown::row` meets its contract: the sets that the events left add to those found are those that all add to the first.
-- Assumes nothing.
use Rattle.growing.specs.RowLaws.{rowing_over, rowing_turn, rowing_end}
use borrow.Author.Rules.{rules}
use Rattle.growing.proofs.Grown.row.Goals as goal

pub returns-in_err-k : goal.returns-in_err-k
returns-in_err-k c = rw c.from_residual.ensures (rowing_over _ _ _ _ _ _ c.loop-e.invariant c.loop-e-test.true c.in_err-k.ensures)

pub loop-e-preserved : goal.loop-e-preserved
loop-e-preserved c = rowing_turn _ _ _ _ _ _ c.loop-e.invariant _ _ (search rules) (search rules) c.loop-e-test.true c.in_ok-k.ensures

pub returns : goal.returns
returns c = search (rules, rowing_end)
