-- `fields::split` meets its contract: the fields collected so far and those after them are the row's.
-- Assumes nothing.
use Rattle.std.proofs.Common.{rules}
use Rattle.fields.specs.SplitLaws.{collects_first, collects_next, collects_all}
use Rattle.fields.proofs.split.Goals as goal

pub loop-end-init : goal.loop-end-init
loop-end-init c = search (rules, collects_first)

pub loop-end-preserved : goal.loop-end-preserved
loop-end-preserved c = search (rules, collects_next)

pub invariant_of-result : goal.invariant_of-result
invariant_of-result c = record { split = search (rules, collects_all) }
