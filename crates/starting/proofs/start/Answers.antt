-- `starting::start` meets its contract: both rooms are cleared, and the first kept row is zeros.
-- Assumes nothing.
use Rattle.starting.specs.StartLaws.{start_refused, start_taken}
use borrow.Author.Rules.{rules}
use Rattle.starting.proofs.start.Goals as goal

pub returns-in-Ok : goal.returns-in-Ok
returns-in-Ok c =
    start_taken _ _ _ _ c.in-Ok.ensures _ c.kept_room.ensures.0 _ _ _ _ (search rules) (search rules) c.seen_room.ensures.0 c.clear.ensures c.clear-in-Ok.ensures c.counts_alone.ensures

pub returns-in-Err : goal.returns-in-Err
returns-in-Err c = start_refused _ _ _ _ c.in-Err.ensures _ c.number.ensures _ c.counts_alone-in-Err.ensures
