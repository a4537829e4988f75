-- `lineparts::put_value` meets its contract.
-- Assumes nothing.
use Rattle.std.proofs.Common.{rules, arith}
use Rattle.decimals.specs.DecimalsLaws.{decimal_value}
use Rattle.lineparts.specs.LinesLaws.{value_unbound, value_bound}
use Rattle.lineparts.proofs.put_value.Goals as goal

pub put_decimal-requires : goal.put_decimal-requires
put_decimal-requires c = omega (arith, decimal_value c.args.x (search rules))

pub returns-then-x-eq0 : goal.returns-then-x-eq0
returns-then-x-eq0 c = search (rules, value_unbound)

pub returns-else-x-eq0 : goal.returns-else-x-eq0
returns-else-x-eq0 c = search (rules, value_bound)
