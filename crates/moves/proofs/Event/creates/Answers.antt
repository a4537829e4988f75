-- `moves::Event::creates` meets its contract: the join of what the new combination includes is the row.
-- Assumes nothing.
use Rattle.std.proofs.Common.{sym, ◌∙◌}
use Rattle.moves.specs.ReadyLaws.{creates-old, creates_apart, creates_joins, creates-is}
use borrow.Author.Rules.{rules}
use Rattle.moves.proofs.Event.creates.Goals as goal
use Rattle.moves.proofs.Event.creates.Goals.{then-self, else-self}

pub joins_to-requires : goal.joins_to-requires
joins_to-requires c = elim c.if-self.branch [
  | then-self w ↦ creates_joins _ _ _ _ _ c.requires.0 c.requires.1 _ (sym w.compatible.ensures ∙ sym w.value-is ∙ c.if-compatible.true) c.join.ensures
  | else-self w ↦ search rules
]

pub returns-then-compatible : goal.returns-then-compatible
returns-then-compatible c = elim c.if-self.branch [
  | then-self w ↦ creates-is _ _ _ _ _ c.requires.0 c.requires.1 _ _ (sym w.compatible.ensures ∙ sym w.value-is ∙ c.if-compatible.true) c.join.ensures c.joins_to.ensures
  | else-self w ↦ search rules
]

pub returns-else-compatible : goal.returns-else-compatible
returns-else-compatible c = elim c.if-self.branch [
  | then-self w ↦ c.if-compatible.false ∙ creates_apart _ _ _ _ _ c.requires.0 c.requires.1 (sym w.compatible.ensures ∙ sym w.value-is ∙ c.if-compatible.false)
  | else-self w ↦ c.if-compatible.false ∙ creates-old _ _ _ _ _ c.requires.0 c.requires.1 c.requires.2 w.if-self.false
]
