-- `foreseen::foresee` meets its contract: what the event comes to is compared with the rooms.
-- Assumes nothing.
use Rattle.std.specs.Prelude.{Ok, Err}
use Rattle.std.proofs.Common.{sym, ◌∙◌}
use Rattle.foreseen.specs.ForeseenLaws.{foreseen_is}
use Rattle.foreseen.proofs.foresee.Goals as goal

pub returns-in-Ok : goal.returns-in-Ok
returns-in-Ok c =
    foreseen_is _ _ _ _ _ _ _ _ _ _ _ _ _ _ _ (Ok _) c.come_to-o.ensures c.seen_room.ensures.0 c.kept_room.ensures.0 c.report_room.ensures (sym c.in-Ok.is ∙ c.hold.ensures)

pub returns-in-Err : goal.returns-in-Err
returns-in-Err c =
    foreseen_is _ _ _ _ _ _ _ _ _ _ _ _ _ _ _ (Err _) c.come_to-o.ensures c.seen_room.ensures.0 c.kept_room.ensures.0 c.report_room.ensures (sym c.in-Err.is ∙ c.hold.ensures)
