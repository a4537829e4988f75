-- `lineparts::put_verdict` meets its contract.
-- Assumes nothing.
use Rattle.std.proofs.Common.{rules}
use Rattle.lineparts.specs.LinesLaws.{verdict-match, verdict-fail}
use Rattle.lineparts.proofs.put_verdict.Goals as goal

pub returns-in-1 : goal.returns-in-1
returns-in-1 c = search (rules, verdict-match)

pub returns-in_default : goal.returns-in_default
returns-in_default c = search (rules, verdict-fail)
