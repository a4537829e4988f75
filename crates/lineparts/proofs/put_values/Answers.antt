-- `lineparts::put_values` meets its contract.
-- Assumes nothing.
use Rattle.std.proofs.Common.{rules}
use Rattle.lineparts.specs.LinesLaws.{values_begin, values_turn, values_end}
use Rattle.lineparts.proofs.put_values.Goals as goal

pub loop-x-init : goal.loop-x-init
loop-x-init c = record { length_kept = search rules; written = search (rules, values_begin) }

pub loop-x-preserved : goal.loop-x-preserved
loop-x-preserved c = record { length_kept = search rules; written = search (rules, values_turn) }

pub returns : goal.returns
returns c = search (rules, values_end)
