-- `lineparts::put_row_number` meets its contract.
-- Assumes nothing.
use native.Mathlib.Omega.{arith}
use Rattle.decimals.specs.DecimalsLaws.{decimal-usize}
use Rattle.lineparts.specs.LinesLaws.{number-written}
use borrow.Author.Rules.{rules}
use Rattle.lineparts.proofs.put_row_number.Goals as goal

pub put_decimal-requires : goal.put_decimal-requires
put_decimal-requires c = omega (arith, decimal-usize c.args.row (search rules))

pub returns : goal.returns
returns c = search (rules, number-written)
