-- `tables::enter` meets its contract: the row is put in where the search ends.
-- Assumes nothing.
use Rattle.tables.specs.EnterLaws.{enterable_searchable, entered_of}
use borrow.Author.Rules.{rules}
use Rattle.tables.proofs.enter.Goals as goal

pub place-at-requires : goal.place-at-requires
place-at-requires c = search (rules, enterable_searchable)

pub returns : goal.returns
returns c = search (rules, entered_of)
