-- `finding::find` meets its contract: judged in the order of the refusals, then looked up.
-- Assumes nothing.
use Rattle.std.proofs.Common.{◌≡◌, Err}
use Rattle.finding.specs.LookupLaws.{lookup_property, lookup_session, lookup-past, lookup-found, lookup_seen, lookup_kept}
use borrow.Author.Rules.{rules}
use Rattle.finding.proofs.find.Goals as goal

pub returns-in_err-taken : goal.returns-in_err-taken
returns-in_err-taken c =
    let e : c.from_residual.result ≡ Err c.in_err-taken.field-0.0 = search rules in
    rw e (lookup_property _ _ _ _ _ _ c.in_err-taken.ensures.1 _ c.in_err-taken.ensures.0)

pub returns-in_err-known : goal.returns-in_err-known
returns-in_err-known c =
    let t = c.in_ok-taken.ensures in
    let e : c.from_residual-in_err-known.result ≡ Err c.in_err-known.field-0.0 = search rules in
    rw e (lookup_session _ _ _ _ _ _ (rw t at c.in_ok-taken.taken.in_range) (rw t at c.in_err-known.ensures.1) _ c.in_err-known.ensures.0)

pub returns-then-not-zero_past : goal.returns-then-not-zero_past
returns-then-not-zero_past c =
    let e = c.in_ok-taken.ensures in
    lookup-past _ _ _ _ _ _ (rw e at c.in_ok-taken.taken.in_range) (rw e at c.in_ok-known.ensures.1) _ c.zero_past.ensures c.if-not-zero_past.true

pub invariant_of-seen : goal.invariant_of-seen
invariant_of-seen c = record { in_order = lookup_seen _ _ _ _ _ c.in_ok-taken.taken.in_range c.in_ok-known.ensures.1 }

pub find_kept-requires : goal.find_kept-requires
find_kept-requires c = lookup_kept _ _ _ _ _ c.in_ok-taken.taken.in_range c.in_ok-known.ensures.1

pub returns : goal.returns
returns c =
    let e = c.in_ok-taken.ensures in
    lookup-found _ _ _ _ _ _ (rw e at c.in_ok-taken.taken.in_range) (rw e at c.in_ok-known.ensures.1)
    _ c.zero_past.ensures c.if-not-zero_past.false _ (rw e at c.in_ok-known.ensures.0) _ c.join_seen.ensures _ c.find_kept.ensures
