-- `declared::declarations` meets its contract: what `read` finds, without the places.
-- Assumes nothing.
use Rattle.std.proofs.Common.{rules}
use Rattle.declared.specs.AnswersLaws.{declared_refused, declared_taken}
use Rattle.declared.proofs.declarations.Goals as goal

pub returns-in-Ok : goal.returns-in-Ok
returns-in-Ok c = search (rules, declared_taken, c.in-Ok.ensures)

pub returns-in-Err : goal.returns-in-Err
returns-in-Err c = search (rules, declared_refused, c.in-Err.ensures)
