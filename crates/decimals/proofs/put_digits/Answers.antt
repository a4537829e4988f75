-- `decimals::put_digits` meets its contract: the digits from the place reached on stand.
-- Assumes nothing.
use lib.ListN.{length-set}
use Rattle.decimals.specs.DigitTurnsLaws.{writing_begins, writing_turn, writing_ends}
use borrow.Author.Rules.{rules}
use Rattle.decimals.proofs.put_digits.Goals as goal

pub loop-p-init : goal.loop-p-init
loop-p-init c = (search rules, search rules, search rules, search (rules, writing_begins))

pub loop-p-preserved : goal.loop-p-preserved
loop-p-preserved c = (simp length-set (search rules), simp length-set (search rules), search rules, search (rules, writing_turn))

pub returns : goal.returns
returns c = search (rules, writing_ends)
