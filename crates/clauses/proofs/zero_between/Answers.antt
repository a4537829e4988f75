-- `clauses::zero_between` meets its contract: the numbers passed are 0.
-- Assumes nothing.
use Rattle.clauses.specs.RowsLaws.{zeros_begins, zeros-turn, zeros_stops, zeros_ends}
use borrow.Author.Rules.{rules}
use Rattle.clauses.proofs.zero_between.Goals as goal

pub loop-p-init : goal.loop-p-init
loop-p-init c = zeros_begins _ _ _

pub returns-then-t-p-ne0 : goal.returns-then-t-p-ne0
returns-then-t-p-ne0 c = search (rules, zeros_stops)

pub loop-p-preserved : goal.loop-p-preserved
loop-p-preserved c = search (rules, zeros-turn)

pub returns : goal.returns
returns c = search (rules, zeros_ends)
