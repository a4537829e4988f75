-- `starting::first_rows` meets its contract: judged in the order of the refusals.
-- Assumes nothing.
use Rattle.starting.specs.StartLaws.{start_property, start_room, start_judged}
use Rattle.std.proofs.Common.{◌≡◌, Err}
use borrow.Author.Rules.{rules}
use Rattle.starting.proofs.first_rows.Goals as goal

pub returns-in_err-taken : goal.returns-in_err-taken
returns-in_err-taken c =
    let e : c.from_residual.result ≡ Err c.in_err-taken.field-0.0 = search rules in
    rw e (start_property _ _ c.in_err-taken.ensures.1 _ c.in_err-taken.ensures.0)

pub returns-then-kept_room-first : goal.returns-then-kept_room-first
returns-then-kept_room-first c =
    let e = c.in_ok-taken.ensures in
    start_room _ _ (rw e at c.in_ok-taken.taken.in_range) _ _ _ _ (rw e at c.hopeful.ensures) c.has.ensures c.from-first.ensures c.kept_room.ensures.0
    c.if-kept_room-first.true

pub returns : goal.returns
returns c =
    let e = c.in_ok-taken.ensures in
    start_judged _ _ (rw e at c.in_ok-taken.taken.in_range) _ _ _ _ (rw e at c.hopeful.ensures) c.has.ensures c.from-first.ensures c.kept_room.ensures.0
    c.if-kept_room-first.false
