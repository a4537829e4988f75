-- `settling::tell` meets its contract: nothing is written, or the report after the others.
-- Assumes nothing.
use Rattle.settling.specs.SettlingLaws.{tell_none, tell_one}
use borrow.Author.Rules.{rules}
use Rattle.settling.proofs.tell.Goals as goal

pub returns-then-not-is_asked : goal.returns-then-not-is_asked
returns-then-not-is_asked c = search (rules, tell_none)

pub returns : goal.returns
returns c = search (rules, tell_one)
