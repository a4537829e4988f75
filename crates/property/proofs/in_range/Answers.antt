-- `property::in_range` meets its contract: counts, sets and rows are tested in the definition's order.
-- Assumes nothing.
use Rattle.property.specs.RangeLaws.{counts_say, in_range_is, in_range_not, in_range_none}
use Rattle.std.proofs.Common.{sym, ◌∙◌}
use borrow.Author.Rules.{rules}
use Rattle.property.proofs.in_range.Goals as goal
use Rattle.property.proofs.in_range.Goals.{then-counts_fit, else-counts_fit}

pub sets_fit-requires : goal.sets_fit-requires
sets_fit-requires c = let k = counts_say _ _ _ _ _ c.counts_fit.ensures c.if-counts_fit.true in (k.1, k.0)

pub rows_fit-requires : goal.rows_fit-requires
rows_fit-requires c = elim c.if-counts_fit.branch [
  | then-counts_fit w ↦ let k = counts_say _ _ _ _ _ c.counts_fit.ensures w.if-counts_fit.true in (k.2, k.1)
  | else-counts_fit w ↦ search rules
]

pub returns-then-sets_fit : goal.returns-then-sets_fit
returns-then-sets_fit c = elim c.if-counts_fit.branch [
  | then-counts_fit w ↦ in_range_is _ _ _ _ c.counts_fit.ensures w.if-counts_fit.true w.sets_fit.ensures (sym w.value-is ∙ c.if-sets_fit.true) c.rows_fit.ensures
  | else-counts_fit w ↦ search rules
]

pub returns-else-sets_fit : goal.returns-else-sets_fit
returns-else-sets_fit c = elim c.if-counts_fit.branch [
  | then-counts_fit w ↦ search (rules, in_range_not)
  | else-counts_fit w ↦ search (rules, in_range_none)
]
