-- `declared::header` meets its contract: the declarations' refusal, or whether the row is their first.
-- Assumes nothing.
use Rattle.std.proofs.Common.{rules}
use Rattle.declaring.specs.TextReadsLaws.{first_inside}
use Rattle.declared.specs.AnswersLaws.{header_refused, header_differs, header_same}
use Rattle.declared.proofs.header.Goals as goal

pub slice_bounds-eq-end : goal.slice_bounds-eq-end
slice_bounds-eq-end c = first_inside _ _ c.row_end.ensures

pub returns-in-Ok : goal.returns-in-Ok
returns-in-Ok c = search (rules, header_same, c.in-Ok.ensures)

pub returns-in-Ok-2 : goal.returns-in-Ok-2
returns-in-Ok-2 c = search (rules, header_differs, c.in-Ok.ensures)

pub returns-in-Err : goal.returns-in-Err
returns-in-Err c = search (rules, header_refused, c.in-Err.ensures)
