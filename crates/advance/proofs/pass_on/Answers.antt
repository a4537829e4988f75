-- `advance::pass_on` meets its contract: the pass, then the rows past it.
-- Assumes nothing.
use Rattle.advance.specs.AdvanceLaws.{pass_whole, pass_fewer}
use borrow.Author.Rules.{rules}
use Rattle.advance.proofs.pass_on.Goals as goal

pub returns-then-a : goal.returns-then-a
returns-then-a c = search (rules, pass_whole)

pub returns : goal.returns
returns c = search (rules, pass_fewer)
