-- `names::is_name` meets its contract: each test that led to a return decides the rule.
-- Assumes nothing.
use Rattle.std.proofs.Common.{rules, tests}
use Rattle.names.specs.NamesLaws.{name_empty, name_long, name_begins, name_rest}
use Rattle.names.proofs.is_name.Goals.{then-is_empty-via-then-is_empty, then-is_empty-via-else-is_empty+then-f-gt-NAME_BYTES, then-is_empty-via-else-is_empty+else-f-gt-NAME_BYTES+then-not-is_letter}
use Rattle.names.proofs.is_name.Goals as goal

pub returns-then-is_empty : goal.returns-then-is_empty
returns-then-is_empty c = elim c.then-is_empty.branch [
  | then-is_empty-via-then-is_empty w ↦ search (rules, tests, name_empty)
  | then-is_empty-via-else-is_empty+then-f-gt-NAME_BYTES w ↦ search (rules, tests, name_long)
  | then-is_empty-via-else-is_empty+else-f-gt-NAME_BYTES+then-not-is_letter w ↦ search (rules, tests, name_begins)
]

pub returns : goal.returns
returns c = search (rules, tests, name_rest)
