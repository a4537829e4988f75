-- `foreseen::weigh` meets its contract: by whether the row stays, and whether it moves.
-- Assumes nothing.
use Rattle.std.proofs.Math.Logic.{inl, inr}
use Rattle.std.proofs.Common.{sym, ◌∙◌}
use Rattle.foreseen.specs.WeighLaws.{weight_stays, weight_moves}
use borrow.Author.Rules.{rules}
use Rattle.foreseen.proofs.weigh.Goals as goal
use Rattle.foreseen.proofs.weigh.Goals.{else-stays-via-then-stays+else-not-creates, else-stays-via-else-stays}

pub returns-then-not-creates : goal.returns-then-not-creates
returns-then-not-creates c = search (rules, weight_stays)

pub returns : goal.returns
returns c =
    weight_moves _ _ _ _ _ _ _ _ _ c.requires _ _ _ _ c.row_at-k.ensures c.includes-stays.ensures
    (elim c.else-stays.branch [
      | else-stays-via-then-stays+else-not-creates w ↦ inr (sym w.creates.ensures ∙ w.if-not-creates.false)
      | else-stays-via-else-stays w ↦ inl w.if-stays.false
    ])
    _ c.next_state-to.ensures _ _ c.is_hopeful.ensures c.is_asked.ensures _ _ _ c.from.ensures c.from-2.ensures c.from-3.ensures
