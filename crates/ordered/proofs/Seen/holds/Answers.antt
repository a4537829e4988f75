-- `ordered::Seen::holds` meets its contract: a combination that is seen stands where the search ends.
-- Assumes nothing.
use Rattle.std.proofs.Common.{le-ltb, ◌∙◌}
use Rattle.combos.specs.LibraryLaws.{same_is_equal}
use Rattle.ordered.specs.RowsLaws.{seen_searchable, seen_absent, seen_found}
use borrow.Author.Rules.{rules}
use Rattle.ordered.proofs.Seen.holds.Goals as goal

pub place-at-requires : goal.place-at-requires
place-at-requires c = search (rules, seen_searchable)

pub returns-then-at-self : goal.returns-then-at-self
returns-then-at-self c = search (rules, seen_found, same_is_equal)

pub returns-else-at-self : goal.returns-else-at-self
returns-else-at-self c = le-ltb _ _ c.if-at-self.false ∙ seen_absent _ _ _ _ c.args.self.in_order c.place-at.ensures c.if-at-self.false
