-- `declaring::read` meets its contract: what is left of the rows from each place on makes the text's declarations.
-- Assumes nothing.
use Rattle.std.proofs.Common.{rules}
use Rattle.fields.specs.FieldsLaws.{split-some}
use Rattle.declaring.specs.TextReadsLaws.{read_long, first_inside, read_header, read_begins, read_row, read_refused, read_later, read_none, read_all}
use Rattle.declaring.proofs.read.Goals as goal

pub returns-then-text-gt-TEXT_BYTES : goal.returns-then-text-gt-TEXT_BYTES
returns-then-text-gt-TEXT_BYTES c = read_long _ (search rules)

pub slice_bounds-split-end : goal.slice_bounds-split-end
slice_bounds-split-end c = first_inside _ _ c.row_end-end.ensures

pub returns-in_err-header_refusal : goal.returns-in_err-header_refusal
returns-in_err-header_refusal c = read_header _ _ _ _ (search rules) c.row_end-end.ensures c.split-header.ensures c.in_err-header_refusal.ensures _ c.from_residual.ensures.1

pub overflow_sub-header : goal.overflow_sub-header
overflow_sub-header c = search (rules, split-some)

pub loop-at-init : goal.loop-at-init
loop-at-init c = search (rules, read_begins, c.in_ok-header_refusal.ensures)

pub returns-in_err-t : goal.returns-in_err-t
returns-in_err-t c = read_refused _ _ _ _ c.loop-at.invariant (search rules) c.in_err-t.ensures _ c.from_residual-in_err-t.ensures.1

pub loop-at-smaller : goal.loop-at-smaller
loop-at-smaller c = search (rules, read_later)

pub loop-at-preserved : goal.loop-at-preserved
loop-at-preserved c = search (rules, read_row, c.in_ok-t.ensures)

pub returns-then-t-eq0 : goal.returns-then-t-eq0
returns-then-t-eq0 c = search (rules, read_none)

pub returns : goal.returns
returns c = search (rules, read_all)
