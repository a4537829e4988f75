-- `session::judge_event` meets its contract: judged in the order of the refusals.
-- Assumes nothing.
use Rattle.session.specs.EventLaws.{event_property, event_session, event-number, event_values, event_judged}
use Rattle.std.proofs.Common.{◌≡◌, Err}
use borrow.Author.Rules.{rules}
use Rattle.session.proofs.judge_event.Goals as goal

pub returns-in_err-taken : goal.returns-in_err-taken
returns-in_err-taken c =
    let e : c.from_residual.result ≡ Err c.in_err-taken.field-0.0 = search rules in
    rw e (event_property _ _ _ _ c.in_err-taken.ensures.1 _ c.in_err-taken.ensures.0)

pub returns-in_err-known : goal.returns-in_err-known
returns-in_err-known c =
    let t = c.in_ok-taken.ensures in
    let e : c.from_residual-in_err-known.result ≡ Err c.in_err-known.field-0.0 = search rules in
    rw e (event_session _ _ _ _ (rw t at c.in_ok-taken.taken.in_range) (rw t at c.in_err-known.ensures.1) _ c.in_err-known.ensures.0)

pub returns-then-p-e : goal.returns-then-p-e
returns-then-p-e c =
    let t = c.in_ok-taken.ensures in
    event-number _ _ _ _ (rw t at c.in_ok-taken.taken.in_range) (rw t at c.in_ok-known.ensures.1) c.if-p-e.true

pub bounds-p-e : goal.bounds-p-e
bounds-p-e c = let t = c.in_ok-taken.ensures in let w = rw t at c.in_ok-taken.taken.within in search rules

pub returns-then-not-binds_exactly : goal.returns-then-not-binds_exactly
returns-then-not-binds_exactly c =
    let t = c.in_ok-taken.ensures in
    event_values _ _ _ _ (rw t at c.in_ok-taken.taken.in_range) (rw t at c.in_ok-known.ensures.1)
    c.if-p-e.false _ _ (search rules) c.binds_exactly.ensures c.if-not-binds_exactly.true

pub returns : goal.returns
returns c =
    let t = c.in_ok-taken.ensures in
    event_judged _ _ _ _ (rw t at c.in_ok-taken.taken.in_range) (rw t at c.in_ok-known.ensures.1)
    c.if-p-e.false _ _ (search rules) c.binds_exactly.ensures c.if-not-binds_exactly.false _ (rw t at c.in_ok-known.ensures.0)
