-- `keeping::settle` meets its contract: the row as it stays, moves or is dropped.
-- Assumes nothing.
use Rattle.keeping.specs.SiftLaws.{settle_onward, settle_stays, settle_moves}
use borrow.Author.Rules.{rules}
use Rattle.keeping.proofs.settle.Goals as goal

pub returns-then-not-includes_at : goal.returns-then-not-includes_at
returns-then-not-includes_at c = search (rules, settle_stays)

pub settle-requires : goal.settle-requires
settle-requires c = let b = c.requires.before in let i = c.requires.inside in (search (rules, settle_onward), b, i)

pub returns : goal.returns
returns c = search (rules, settle_moves)
