-- `entries::read_row` meets its contract: each test decides its refusal, in the document's order.
-- Assumes nothing.
use Rattle.std.proofs.Common.{sym, length-take-le}
use native.Mathlib.Omega.{arith}
use Rattle.fields.specs.SplitLaws.{end_within}
use borrow.Author.Rules.{rules}
use Rattle.entries.specs.RowLaws.{row_long, row-fields, row_unknown, row_bad, row_wrong, row_right, passed_on, count_right}
use Rattle.entries.proofs.read_row.Goals as goal
use Rattle.entries.proofs.read_row.Goals.{then-row-gt-ROW_BYTES-via-then-row-gt-ROW_BYTES, then-row-gt-ROW_BYTES-via-else-row-gt-ROW_BYTES+then-ne}

pub returns-then-row-gt-ROW_BYTES : goal.returns-then-row-gt-ROW_BYTES
returns-then-row-gt-ROW_BYTES c = elim c.then-row-gt-ROW_BYTES.branch [
  | then-row-gt-ROW_BYTES-via-then-row-gt-ROW_BYTES w ↦ search (rules, row_long)
  | then-row-gt-ROW_BYTES-via-else-row-gt-ROW_BYTES+then-ne w ↦
      row-fields _ _ _ _ _ _ w.if-row-gt-ROW_BYTES.false _ w.fields_said.ensures _ w.ne.ensures w.if-ne.true
]

pub slice_bounds-find-end : goal.slice_bounds-find-end
slice_bounds-find-end c = sym (length-take-le _ _ (end_within _ _ _ c.field_end-end.ensures (omega arith)).1)

pub returns-in_err-event : goal.returns-in_err-event
returns-in_err-event c =
    let p = passed_on _ _ _ _ c.from_residual.ensures.1 c.in_err-event.ensures.ok_part c.in_err-event.ensures.value in
    rw p (row_unknown _ _ _ _ _ _ c.if-row-gt-ROW_BYTES.false _ c.fields_said.ensures _ c.ne.ensures c.if-ne.false _ c.field_end-end.ensures _ c.find.ensures c.in_err-event.ensures.ok_part)

pub values_said-requires : goal.values_said-requires
values_said-requires c = (omega (arith, c.field_end-end.ensures), (count_right _ _ _ c.fields_said.ensures _ c.ne.ensures c.if-ne.false, search rules))

pub returns-in_err-values : goal.returns-in_err-values
returns-in_err-values c =
    let p = passed_on _ _ _ _ c.from_residual-in_err-values.ensures.1 c.in_err-values.ensures.ok_part c.in_err-values.ensures.value in
    rw p (row_bad _ _ _ _ _ _ c.if-row-gt-ROW_BYTES.false _ c.fields_said.ensures _ c.ne.ensures c.if-ne.false _ c.field_end-end.ensures _ c.find.ensures _ c.in_ok-event.ensures.ok_part
    _ c.values_said.ensures c.in_err-values.ensures.ok_part)

pub returns-then-not-binds_exactly : goal.returns-then-not-binds_exactly
returns-then-not-binds_exactly c =
    row_wrong _ _ _ _ _ _ c.if-row-gt-ROW_BYTES.false _ c.fields_said.ensures _ c.ne.ensures c.if-ne.false _ c.field_end-end.ensures _ c.find.ensures _ c.in_ok-event.ensures.ok_part
    _ c.values_said.ensures _ c.in_ok-values.ensures.ok_part _ (rw c.from.ensures at c.binds_exactly.ensures) c.if-not-binds_exactly.true

pub returns : goal.returns
returns c =
    row_right _ _ _ _ _ _ c.if-row-gt-ROW_BYTES.false _ c.fields_said.ensures _ c.ne.ensures c.if-ne.false _ c.field_end-end.ensures _ c.find.ensures _ c.in_ok-event.ensures.ok_part
    _ c.values_said.ensures _ c.in_ok-values.ensures.ok_part _ (rw c.from.ensures at c.binds_exactly.ensures) c.if-not-binds_exactly.false
