-- `heading::put_heading` meets its contract.
-- Assumes nothing.
use Rattle.heading.specs.HeadingLaws.{heading-written}
use borrow.Author.Rules.{rules}
use Rattle.heading.proofs.put_heading.Goals as goal

pub returns : goal.returns
returns c = search (rules, heading-written)
