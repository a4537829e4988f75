-- `rowfields::value_said` meets its contract: a field that says no value is empty or bad.
-- Assumes nothing.
use Rattle.rowfields.specs.SaidLaws.{said_good, said_none, said_bad}
use borrow.Author.Rules.{rules}
use Rattle.rowfields.proofs.value_said.Goals as goal
use Rattle.rowfields.proofs.value_said.Goals.{else-value-eq0-via-then-value-eq0+else-not-is_empty, else-value-eq0-via-else-value-eq0}

pub returns-then-not-is_empty : goal.returns-then-not-is_empty
returns-then-not-is_empty c = search (rules, said_bad)

pub returns-else-value-eq0 : goal.returns-else-value-eq0
returns-else-value-eq0 c = elim c.else-value-eq0.branch [
  | else-value-eq0-via-then-value-eq0+else-not-is_empty w ↦ search (rules, said_none)
  | else-value-eq0-via-else-value-eq0 w ↦ search (rules, said_good)
]
