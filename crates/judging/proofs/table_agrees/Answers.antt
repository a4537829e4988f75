-- `judging::table_agrees` meets its contract: counts first, then the sets.
-- Assumes nothing.
use Rattle.std.proofs.Common.{sym, ◌∙◌, eqb-true}
use Rattle.std.proofs.lemmas.Bool.{eqb-false}
use borrow.Author.Rules.{rules}
use Rattle.judging.specs.JudgingLaws.{parameters_differ, events_differ, sets_decide}
use Rattle.judging.proofs.table_agrees.Goals as goal
use Rattle.judging.proofs.table_agrees.Goals.{then-p-reading, else-p-reading}

pub returns-then-p-reading-2 : goal.returns-then-p-reading-2
returns-then-p-reading-2 c = elim c.if-p-reading.branch [
  | then-p-reading w ↦
      sets_decide _ _ w.if-p-reading.true (eqb-true _ _ (sym w.value-is ∙ c.if-p-reading-2.true)) (search rules) (search rules) _ c.eq.ensures
  | else-p-reading w ↦ absurd (search rules)
]

pub returns-else-p-reading-2 : goal.returns-else-p-reading-2
returns-else-p-reading-2 c = elim c.if-p-reading.branch [
  | then-p-reading w ↦
      c.if-p-reading-2.false ∙ events_differ _ _ w.if-p-reading.true (eqb-false _ _ (sym w.value-is ∙ c.if-p-reading-2.false))
  | else-p-reading w ↦ c.if-p-reading-2.false ∙ parameters_differ _ _ w.if-p-reading.false
]
