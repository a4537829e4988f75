-- `hopes::check` meets its contract: refused, or the hopeful states of a table that is taken.
-- Assumes nothing.
use Rattle.hopes.specs.ChecksLaws.{check_refused, check_taken}
use borrow.Author.Rules.{rules}
use Rattle.hopes.proofs.check.Goals as goal

pub returns-in-Ok : goal.returns-in-Ok
returns-in-Ok c = search (rules, check_taken)

pub returns-in-Err : goal.returns-in-Err
returns-in-Err c = search (rules, check_refused)
