-- `rowrules::header_refusal` meets its contract: each test that led to a return decides the refusal.
-- Assumes nothing.
use Rattle.std.proofs.Common.{rules}
use Rattle.rowrules.specs.RowRefusalsLaws.{header-many, header-stray, header_word, header_names, header_twice, header_taken}
use Rattle.rowrules.proofs.header_refusal.Goals.{then-has_stray-via-then-has_stray, then-has_stray-via-else-has_stray+then-ne}
use Rattle.rowrules.proofs.header_refusal.Goals as goal

pub returns-then-row-gt-MOST_FIELDS : goal.returns-then-row-gt-MOST_FIELDS
returns-then-row-gt-MOST_FIELDS c = search (rules, header-many)

pub returns-then-has_stray : goal.returns-then-has_stray
returns-then-has_stray c = elim c.then-has_stray.branch [
  | then-has_stray-via-then-has_stray w ↦ search (rules, header-stray)
  | then-has_stray-via-else-has_stray+then-ne w ↦ search (rules, header_word)
]

pub returns-then-not-all_names : goal.returns-then-not-all_names
returns-then-not-all_names c = search (rules, header_names)

pub returns-then-has_repeat : goal.returns-then-has_repeat
returns-then-has_repeat c = search (rules, header_twice)

pub returns : goal.returns
returns c = search (rules, header_taken)
