-- `judging::judge_call` meets its contract: each refusal in the document's order, then all that is known.
-- Assumes nothing.
use Rattle.judging.specs.JudgingLaws.{judge-declarations, judge_property, judge-table, judge_session, judge_good}
use Rattle.std.proofs.Common.{refl}
use Rattle.judging.proofs.judge_call.Goals as goal

pub returns-in_err-reading : goal.returns-in_err-reading
returns-in_err-reading c = judge-declarations _ _ _ _ c.in_err-reading.ensures _ c.from_residual.ensures.1

pub returns-in_err-taken : goal.returns-in_err-taken
returns-in_err-taken c =
    judge_property _ _ _ _ c.in_ok-reading.ensures c.in_err-taken.ensures.1 _ c.in_err-taken.ensures.0 _ c.from_residual-in_err-taken.ensures.1

pub returns-then-not-table_agrees : goal.returns-then-not-table_agrees
returns-then-not-table_agrees c =
    let e = c.in_ok-taken.ensures in
    judge-table _ _ _ _ c.in_ok-reading.ensures (rw e at c.in_ok-taken.taken.in_range) _ (rw e at c.table_agrees.ensures) c.if-not-table_agrees.true

pub returns-in_err-known : goal.returns-in_err-known
returns-in_err-known c =
    let e = c.in_ok-taken.ensures in
    judge_session _ _ _ _ c.in_ok-reading.ensures (rw e at c.in_ok-taken.taken.in_range) _ (rw e at c.table_agrees.ensures) c.if-not-table_agrees.false
    (rw e at c.in_err-known.ensures.1) _ c.in_err-known.ensures.0 _ c.from_residual-in_err-known.ensures.1

pub returns : goal.returns
returns c =
    let e = c.in_ok-taken.ensures in
    judge_good _ _ _ _ c.in_ok-reading.ensures (rw e at c.in_ok-taken.taken.in_range) _ (rw e at c.table_agrees.ensures) c.if-not-table_agrees.false
    (rw e at c.in_ok-known.ensures.1) _ (rw e at c.in_ok-known.ensures.0) _ refl refl refl
