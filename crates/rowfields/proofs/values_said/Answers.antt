-- `rowfields::values_said` meets its contract: the values read so far are those of the fields before the loop's number, and the
-- walk has reached the field before the next.
-- Assumes nothing.
use native.Mathlib.Omega.{arith}
use Rattle.rowfields.specs.SaidLaws.{reading_begins, reading_comma, reading_within, reading_bad, reading_more, reading_ends}
use Rattle.std.proofs.Common.{◌∙◌}
use borrow.Author.Rules.{rules}
use Rattle.rowfields.proofs.values_said.Goals as goal

pub loop-k-init : goal.loop-k-init
loop-k-init c = search (rules, reading_begins)

pub overflow_add-start : goal.overflow_add-start
overflow_add-start c = omega (arith, reading_comma _ _ _ _ _ c.loop-k.invariant c.loop-k-test.true)

pub slice_bounds-value_said-end : goal.slice_bounds-value_said-end
slice_bounds-value_said-end c = omega (arith, reading_within _ _ _ _ _ c.loop-k.invariant c.loop-k-test.true _ c.field_end-end.ensures)

pub returns-in_err-values : goal.returns-in_err-values
returns-in_err-values c = c.from_residual.ensures ∙ reading_bad _ _ _ _ _ c.loop-k.invariant c.loop-k-test.true _ c.field_end-end.ensures _ c.value_said.ensures c.in_err-values.was

pub loop-k-preserved : goal.loop-k-preserved
loop-k-preserved c = reading_more _ _ _ _ _ c.loop-k.invariant c.loop-k-test.true _ c.field_end-end.ensures _ c.value_said.ensures _ c.in_ok-values.was

pub returns : goal.returns
returns c = search (rules, reading_ends)
