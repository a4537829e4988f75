-- `foreseen::Rooms::hold` meets its contract: in the order of the refusals.
-- Assumes nothing.
use Rattle.foreseen.specs.ForeseenLaws.{refuses_seen, refuses_kept, refuses_reports, refuses_none}
use borrow.Author.Rules.{rules}
use Rattle.foreseen.proofs.Rooms.hold.Goals as goal

pub returns-then-self-o : goal.returns-then-self-o
returns-then-self-o c = search (rules, refuses_seen)

pub returns-then-self-o-2 : goal.returns-then-self-o-2
returns-then-self-o-2 c = search (rules, refuses_kept)

pub returns-then-self-o-3 : goal.returns-then-self-o-3
returns-then-self-o-3 c = search (rules, refuses_reports)

pub returns-else-self-o-3 : goal.returns-else-self-o-3
returns-else-self-o-3 c = search (rules, refuses_none)
