-- `fields::field_place` meets its contract: the fields that are left to be passed lead to the one that is asked for.
-- Assumes nothing.
use Rattle.std.proofs.Common.{rules, arith}
use Rattle.fields.specs.SplitLaws.{walk_begins, walk_on, walk_none, walk_ends, walk_inside}
use Rattle.fields.proofs.field_place.Goals as goal

pub loop-passed-init : goal.loop-passed-init
loop-passed-init c = search (rules, walk_begins)

pub returns-then-row-end : goal.returns-then-row-end
returns-then-row-end c = walk_none _ _ _ _ _ c.loop-passed.invariant (omega arith) c.if-row-end.true

pub loop-passed-preserved : goal.loop-passed-preserved
loop-passed-preserved c = search (rules, walk_on)

pub overflow_sub-result : goal.overflow_sub-result
overflow_sub-result c = omega (arith, walk_inside _ _ _ _ _ c.loop-passed.invariant)

pub returns : goal.returns
returns c = walk_ends _ _ _ _ _ c.loop-passed.invariant (omega arith)
