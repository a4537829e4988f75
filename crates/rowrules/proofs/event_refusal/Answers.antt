-- `rowrules::event_refusal` meets its contract: each test that led to a return decides the refusal.
-- Assumes nothing.
use Rattle.std.proofs.Common.{rules}
use Rattle.rowrules.specs.RowRefusalsLaws.{event-many, event-stray, event_count_lem, event_marks, event_name_lem, event_epsilon, event_twice, event_taken}
use Rattle.rowrules.proofs.event_refusal.Goals.{then-has_stray-via-then-has_stray, then-has_stray-via-else-has_stray+then-row-t, then-has_stray-via-else-has_stray+else-row-t+then-not-all_marks, then-not-is_name-via-then-not-is_name, then-not-is_name-via-else-not-is_name+then-eq}
use Rattle.rowrules.proofs.event_refusal.Goals as goal

pub returns-then-t-ge-MOST_EVENTS : goal.returns-then-t-ge-MOST_EVENTS
returns-then-t-ge-MOST_EVENTS c = event-many _ _ _ c.requires (search rules)

pub returns-then-has_stray : goal.returns-then-has_stray
returns-then-has_stray c = elim c.then-has_stray.branch [
  | then-has_stray-via-then-has_stray w ↦ search (rules, event-stray)
  | then-has_stray-via-else-has_stray+then-row-t w ↦ search (rules, event_count_lem)
  | then-has_stray-via-else-has_stray+else-row-t+then-not-all_marks w ↦ search (rules, event_marks)
]

pub returns-then-not-is_name : goal.returns-then-not-is_name
returns-then-not-is_name c = elim c.then-not-is_name.branch [
  | then-not-is_name-via-then-not-is_name w ↦ search (rules, event_name_lem)
  | then-not-is_name-via-else-not-is_name+then-eq w ↦ search (rules, event_epsilon)
]

pub returns-then-is_some : goal.returns-then-is_some
returns-then-is_some c = search (rules, event_twice)

pub returns : goal.returns
returns c = search (rules, event_taken)
