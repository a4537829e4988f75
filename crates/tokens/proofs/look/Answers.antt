-- `tokens::look` meets its contract: the token at the place, and the blanks after it passed.
-- Assumes nothing.
use borrow.Author.Rules.{rules}
use Rattle.tokens.specs.StepsLaws.{looks_says}
use Rattle.tokens.proofs.look.Goals as goal

pub returns : goal.returns
returns c = search (rules, looks_says)
