-- `decimals::digit_count` meets its contract.
-- Assumes nothing.
use Rattle.std.proofs.Common.{rules}
use Rattle.decimals.specs.DecimalsLaws.{decimal_count}
use Rattle.decimals.proofs.digit_count.Goals as goal

pub returns : goal.returns
returns c = search (rules, decimal_count)
