-- `declared::pattern_place` meets its contract: past the end and where no letter stands there is no name; else its run.
-- Assumes nothing.
use Rattle.std.proofs.Common.{rules}
use Rattle.names.specs.NamesLaws.{name_past, name_none, name_there}
use Rattle.declared.proofs.pattern_place.Goals.{then-pattern-at-via-then-pattern-at, then-pattern-at-via-else-pattern-at+then-not-is_letter}
use Rattle.declared.proofs.pattern_place.Goals as goal

pub returns-then-pattern-at : goal.returns-then-pattern-at
returns-then-pattern-at c = elim c.then-pattern-at.branch [
  | then-pattern-at-via-then-pattern-at w ↦ search (rules, name_past)
  | then-pattern-at-via-else-pattern-at+then-not-is_letter w ↦ search (rules, name_none)
]

pub returns : goal.returns
returns c = search (rules, name_there)
