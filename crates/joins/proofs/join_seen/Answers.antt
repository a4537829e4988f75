-- `joins::join_seen` meets its contract: the join so far includes each seen row whose set was looked up.
-- Assumes nothing.
use Rattle.std.proofs.Common.{◌∙◌}
use Rattle.joins.specs.JoinLaws.{gathered_begins, gathered-turn, gathered_ends, missing_joins, missing_none}
use borrow.Author.Rules.{rules}
use Rattle.joins.proofs.join_seen.Goals as goal

pub loop-set-init : goal.loop-set-init
loop-set-init c = search (rules, gathered_begins)

pub loop-set-preserved-in-Some : goal.loop-set-preserved-in-Some
loop-set-preserved-in-Some c =
    gathered-turn _ _ _ _ _ _ c.loop-set.invariant c.loop-set-test.true
    (c.join-joined.ensures ∙ missing_joins _ _ _ _ _ c.missing.ensures _ c.in-Some.is)

pub loop-set-preserved : goal.loop-set-preserved
loop-set-preserved c = search (rules, gathered-turn, missing_none)

pub returns : goal.returns
returns c = search (rules, gathered_ends)
