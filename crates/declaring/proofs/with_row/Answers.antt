-- `declaring::with_row` meets its contract: the row's refusal, or the reading with the row's event.
-- Assumes nothing.
use Rattle.std.proofs.Common.{rules, arith}
use Rattle.rows.specs.TextLaws.{row_within}
use Rattle.rowrules.specs.RowRefusalsLaws.{event_fits, event-fields}
use Rattle.declaring.specs.RowReadsLaws.{row_inside, row_refused, row_taken}
use Rattle.declaring.proofs.with_row.Goals as goal

pub slice_bounds-split-end : goal.slice_bounds-split-end
slice_bounds-split-end c = omega (arith, row_within _ _ _ c.row_end-end.ensures c.requires.1)

pub returns-in_err-event_refusal : goal.returns-in_err-event_refusal
returns-in_err-event_refusal c = row_refused _ _ _ _ _ _ c.row_end-end.ensures c.split-row.ensures c.in_err-event_refusal.ensures _ c.from_residual.ensures.1

pub overflow_add-place : goal.overflow_add-place
overflow_add-place c = omega (arith, row_inside _ _ _ _ _ c.row_end-end.ensures c.requires.1 c.split-row.ensures c.split-row.result.split 0)

pub set_of-requires : goal.set_of-requires
set_of-requires c = search (rules, event-fields, c.in_ok-event_refusal.ensures)

pub one_more-requires : goal.one_more-requires
one_more-requires c = search (rules, event_fits, c.in_ok-event_refusal.ensures)

pub returns : goal.returns
returns c = search (rules, row_taken, c.in_ok-event_refusal.ensures)
