-- `logs::run` meets its contract: judged once, then row after row what is left to do answers what the whole run answers.
-- Assumes nothing.
use mathlib.Core.List.{[]}
use native.Mathlib.Omega.{arith}
use borrow.Author.Rules.{rules}
use Rattle.turns.specs.SureLaws.{row_goes}
use Rattle.logs.specs.RunningLaws.{going_onward, going_spent, going_ended, loop_refused, loop_taken, loop_counts}
use Rattle.logs.specs.CallsLaws.{run_call_refused, run_call_past, run_call_sure, run_call_starts}
use Rattle.logs.proofs.run.Goals as goal

pub returns-in-Err : goal.returns-in-Err
returns-in-Err c = run_call_refused _ _ _ _ _ _ _ _ _ _ _ c.in-Err.ensures _ c.number.ensures _ c.none_taken.ensures

pub returns-then-log-at : goal.returns-then-log-at
returns-then-log-at c = run_call_past _ _ _ _ _ _ _ _ _ _ _ c.in-Ok.ensures c.if-log-at.true _ c.number-then-log-at.ensures _ c.none_taken-then-log-at.ensures

pub loop-r-init : goal.loop-r-init
loop-r-init c = run_call_starts _ _ _ _ _ _ _ _ _ _ _ c.in-Ok.ensures c.if-log-at.false _ c.none_taken-r.ensures

pub take_row-r-requires : goal.take_row-r-requires
take_row-r-requires c =
    let sure = run_call_sure _ _ _ _ _ _ [] [] 0 0 _ c.in-Ok.ensures in (
      row_goes _ _ sure _ _ _ _ c.loop-r.invariant.sound,
      going_onward _ _ _ _ _ _ _ _ _ c.loop-r.invariant c.loop-r-test.true c.ranges.budget.fits c.if-r-log.true (search rules),
    )

pub returns-then-r-ne-TAKEN : goal.returns-then-r-ne-TAKEN
returns-then-r-ne-TAKEN c =
    let sure = run_call_sure _ _ _ _ _ _ [] [] 0 0 _ c.in-Ok.ensures in
    loop_refused _ _ sure _ _ _ _ _ _ _ c.loop-r.invariant c.loop-r-test.true c.if-r-log.true _ _ _ _ c.take_row-r.ensures c.if-r-ne-TAKEN.true

pub loop-r-smaller : goal.loop-r-smaller
loop-r-smaller c =
    let sure = run_call_sure _ _ _ _ _ _ [] [] 0 0 _ c.in-Ok.ensures in
    let k = loop_counts _ _ sure _ _ _ _ _ _ _ c.loop-r.invariant c.loop-r-test.true c.if-r-log.true _ _ _ _ c.take_row-r.ensures c.if-r-ne-TAKEN.false in
    let h = c.loop-r-test.true in
    omega arith

pub loop-r-preserved : goal.loop-r-preserved
loop-r-preserved c =
    let sure = run_call_sure _ _ _ _ _ _ [] [] 0 0 _ c.in-Ok.ensures in
    loop_taken _ _ sure _ _ _ _ _ _ _ c.loop-r.invariant c.loop-r-test.true c.if-r-log.true _ _ _ _ c.take_row-r.ensures c.if-r-ne-TAKEN.false

pub returns-else-r-log : goal.returns-else-r-log
returns-else-r-log c = going_ended _ _ _ _ _ _ _ _ _ c.loop-r.invariant c.if-r-log.false

pub returns-after-loop-r : goal.returns-after-loop-r
returns-after-loop-r c = going_spent _ _ _ _ _ _ _ _ _ c.loop-r.invariant c.loop-r-test.false
