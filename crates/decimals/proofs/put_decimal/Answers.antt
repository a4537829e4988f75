-- `decimals::put_decimal` meets its contract.
-- Assumes nothing.
use Rattle.decimals.specs.DigitTurnsLaws.{decimal-written}
use borrow.Author.Rules.{rules}
use Rattle.decimals.proofs.put_decimal.Goals as goal

pub returns : goal.returns
returns c = search (rules, decimal-written)
