-- `judge::seen_stands` meets its contract: the tests of the seen table, in the order of the definition.
-- Assumes nothing.
use Rattle.std.proofs.Common.{sym, ◌∙◌}
use Rattle.judge.specs.SoundLaws.{ordered_inside, ordered_fits, seen_unordered, seen_unbound, seen_clean}
use borrow.Author.Rules.{rules}
use Rattle.judge.proofs.seen_stands.Goals as goal

pub returns-then-not-rows_ordered : goal.returns-then-not-rows_ordered
returns-then-not-rows_ordered c = sym c.if-not-rows_ordered.true ∙ search (rules, seen_unordered)

pub rows_bound-requires : goal.rows_bound-requires
rows_bound-requires c = search (rules, ordered_inside)

pub rows_clean-requires : goal.rows_clean-requires
rows_clean-requires c = search (rules, ordered_fits)

pub returns-then-rows_bound : goal.returns-then-rows_bound
returns-then-rows_bound c = search (rules, seen_clean)

pub returns-else-rows_bound : goal.returns-else-rows_bound
returns-else-rows_bound c = search (rules, seen_unbound)
