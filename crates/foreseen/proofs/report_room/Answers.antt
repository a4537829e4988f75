-- `foreseen::report_room` meets its contract: the whole rows from there on.
-- Assumes nothing.
use Rattle.foreseen.specs.ForeseenLaws.{some_report_room}
use borrow.Author.Rules.{rules}
use Rattle.foreseen.proofs.report_room.Goals as goal

pub returns : goal.returns
returns c = search (rules, some_report_room)
