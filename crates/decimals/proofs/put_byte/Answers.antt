-- `decimals::put_byte` meets its contract.
-- Assumes nothing.
use Rattle.decimals.specs.WrittenLaws.{written_byte}
use borrow.Author.Rules.{rules}
use Rattle.decimals.proofs.put_byte.Goals as goal

pub returns : goal.returns
returns c = search (rules, written_byte)
