-- `turns::step_row` meets its contract: the row is read, and its event stepped.
-- Assumes nothing.
use Rattle.turns.specs.SteppingLaws.{row_refused, row_steps, row_steady}
use Rattle.turns.proofs.step_row.Goals as goal

pub step-requires : goal.step-requires
step-requires c = row_steady _ c.args.from _ _ _ _ c.args.reports.now _ _ c.read_row.ensures _ c.in-Ok.is c.requires

pub returns-in-Ok : goal.returns-in-Ok
returns-in-Ok c = row_steps _ _ _ _ _ _ _ _ _ c.read_row.ensures _ c.in-Ok.is _ _ _ _ c.step.ensures

pub returns-in-Err : goal.returns-in-Err
returns-in-Err c = row_refused _ _ _ _ _ _ _ _ _ c.read_row.ensures _ c.in-Err.is _ c.number.ensures _ c.counts_alone.ensures
