-- `logs::row` meets its contract: judged once, then the row.
-- Assumes nothing.
use mathlib.Core.List.{[]}
use Rattle.logs.specs.CallsLaws.{row_call_refused, row_call_goes, row_call_steps}
use Rattle.logs.proofs.row.Goals as goal

pub step_row-requires : goal.step_row-requires
step_row-requires c = row_call_goes _ _ _ _ _ _ [] [] _ c.in-Ok.ensures

pub returns-in-Ok : goal.returns-in-Ok
returns-in-Ok c = row_call_steps _ _ _ _ _ _ _ _ _ c.in-Ok.ensures _ _ _ _ c.step_row.ensures

pub returns-in-Err : goal.returns-in-Err
returns-in-Err c = row_call_refused _ _ _ _ _ _ _ _ _ c.in-Err.ensures _ c.number.ensures _ c.counts_alone.ensures
