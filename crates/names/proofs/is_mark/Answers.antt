-- `names::is_mark` meets its contract: the two tests decide the rule.
-- Assumes nothing.
use Rattle.std.proofs.Common.{rules}
use Rattle.names.specs.NamesLaws.{mark_zero, mark_one}
use Rattle.names.proofs.is_mark.Goals as goal

pub returns-then-same : goal.returns-then-same
returns-then-same c = search (rules, mark_zero)

pub returns-else-same : goal.returns-else-same
returns-else-same c = search (rules, mark_one)
