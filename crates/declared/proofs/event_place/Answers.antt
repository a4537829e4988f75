-- `declared::event_place` meets its contract: a name's part, if there is such a name.
-- Assumes nothing.
use Rattle.std.proofs.Common.{rules}
use Rattle.declared.specs.AnswersLaws.{event_refused, event-past, event_there}
use Rattle.declared.proofs.event_place.Goals as goal

pub returns-in-Ok : goal.returns-in-Ok
returns-in-Ok c = search (rules, event_there, c.in-Ok.ensures)

pub returns-in_default : goal.returns-in_default
returns-in_default c = search (rules, event-past, c.in-Ok.ensures)

pub returns-in_default-2 : goal.returns-in_default-2
returns-in_default-2 c = search (rules, event_refused, c.in_default.ensures)
