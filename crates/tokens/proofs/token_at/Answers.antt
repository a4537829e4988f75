-- `tokens::token_at` meets its contract: the class of the first byte decides what stands there.
-- Assumes nothing.
use Rattle.tokens.specs.LexingLaws.{token_end, token_word, token_ask, token_mark}
use borrow.Author.Rules.{rules}
use Rattle.tokens.proofs.token_at.Goals as goal

pub returns-then-s-at : goal.returns-then-s-at
returns-then-s-at c = search (rules, token_end)

pub returns-in-Letter : goal.returns-in-Letter
returns-in-Letter c = search (rules, token_word)

pub returns-in-AtSign : goal.returns-in-AtSign
returns-in-AtSign c = search (rules, token_ask)

pub returns-in_default : goal.returns-in_default
returns-in_default c = rw c.of_mark.ensures (token_mark _ _ (search rules) _ c.class_of.ensures c.in_default.not-Letter c.in_default.not-AtSign)
