-- `joins::joins_to` meets its contract: k includes each seen row that c includes and whose set was looked up.
-- Assumes nothing.
use Rattle.joins.specs.JoinLaws.{covered_begins, covered_missing, covered_more, covered_ends}
use borrow.Author.Rules.{rules}
use Rattle.joins.proofs.joins_to.Goals as goal

pub loop-set-init : goal.loop-set-init
loop-set-init c = search (rules, covered_begins)

pub returns-then-is_some : goal.returns-then-is_some
returns-then-is_some c = search (rules, covered_missing)

pub loop-set-preserved : goal.loop-set-preserved
loop-set-preserved c = search (rules, covered_more)

pub returns : goal.returns
returns c = search (rules, covered_ends)
