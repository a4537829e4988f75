-- `session::event` meets its contract: an event that is judged good is stepped.
-- Assumes nothing.
use Rattle.session.specs.EventLaws.{event_steady, event_refused, event_steps}
use Rattle.session.proofs.event.Goals as goal

pub step-requires : goal.step-requires
step-requires c = event_steady _ _ _ _ _ _ _ _ c.in-Ok.ensures

pub returns-in-Ok : goal.returns-in-Ok
returns-in-Ok c = event_steps _ _ _ _ _ _ _ _ c.in-Ok.ensures _ _ _ _ _ c.step.ensures

pub returns-in-Err : goal.returns-in-Err
returns-in-Err c = event_refused _ _ _ _ _ _ _ _ c.in-Err.ensures _ _ c.number.ensures _ c.counts_alone.ensures
