-- `settling::lower` meets its contract: the numbers up to the end have moved down.
-- Assumes nothing.
use Rattle.settling.specs.SettlingLaws.{lowered_of}
use borrow.Author.Rules.{rules}
use Rattle.settling.proofs.lower.Goals as goal

pub returns : goal.returns
returns c = search (rules, lowered_of)
