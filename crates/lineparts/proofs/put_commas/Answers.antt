-- `lineparts::put_commas` meets its contract.
-- Assumes nothing.
use Rattle.std.proofs.Common.{rules}
use Rattle.lineparts.specs.LinesLaws.{commas_written}
use Rattle.lineparts.proofs.put_commas.Goals as goal

pub returns : goal.returns
returns c = search (rules, commas_written)
