-- `states::table_of` meets its contract: the lists of the shape, with the first numbers after the start, give the table of the pattern that has it.
-- Assumes nothing.
use Rattle.states.specs.TableLaws.{tabled_none, tabled_some}
use borrow.Author.Rules.{rules}
use Rattle.states.proofs.table_of.Goals as goal

pub returns-in_err-grown : goal.returns-in_err-grown
returns-in_err-grown c = rw c.from_residual.ensures (tabled_none _ _ _ c.in_err-grown.ensures)

pub verdicts-verdicts-requires : goal.verdicts-verdicts-requires
verdicts-verdicts-requires c = let few = c.in_ok-grown.ensures.few in search rules

pub returns : goal.returns
returns c = tabled_some _ _ _ _ _ c.in_ok-grown.ensures c.verdicts-verdicts.ensures
