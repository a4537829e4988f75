-- `values::value_of` meets its contract: the digits read so far and the rest make the field's number.
-- Assumes nothing.
use Rattle.std.proofs.Common.{rules, tests}
use Rattle.values.specs.ValueLaws.{value_empty, value_zero, digits_begin, digits_below, digits-past, digits_large, digits-turn, digits-end}
use Rattle.values.proofs.value_of.Goals.{then-is_empty-via-then-is_empty, then-is_empty-via-else-is_empty+then-f-eq-ZERO, then-b-lt-ZERO-via-then-b-lt-ZERO, then-b-lt-ZERO-via-else-b-lt-ZERO+then-b-gt-NINE}
use Rattle.values.proofs.value_of.Goals as goal

pub returns-then-is_empty : goal.returns-then-is_empty
returns-then-is_empty c = elim c.then-is_empty.branch [
  | then-is_empty-via-then-is_empty w ↦ search (rules, tests, value_empty)
  | then-is_empty-via-else-is_empty+then-f-eq-ZERO w ↦ search (rules, tests, value_zero)
]

pub loop-b-init : goal.loop-b-init
loop-b-init c = search (rules, tests, digits_begin)

pub returns-then-b-lt-ZERO : goal.returns-then-b-lt-ZERO
returns-then-b-lt-ZERO c = elim c.then-b-lt-ZERO.branch [
  | then-b-lt-ZERO-via-then-b-lt-ZERO w ↦ search (rules, digits_below)
  | then-b-lt-ZERO-via-else-b-lt-ZERO+then-b-gt-NINE w ↦ search (rules, digits-past)
]

pub returns-then-more-gt-LARGEST_VALUE : goal.returns-then-more-gt-LARGEST_VALUE
returns-then-more-gt-LARGEST_VALUE c = search (rules, digits_large)

pub loop-b-preserved : goal.loop-b-preserved
loop-b-preserved c = search (rules, digits-turn)

pub returns : goal.returns
returns c = search (rules, digits-end)
