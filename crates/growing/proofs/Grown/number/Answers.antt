-- `growing::Grown::number` meets its contract: the set is one of those found, a 65th, or the next.
-- Assumes nothing.
use Rattle.std.proofs.Common.{sym, ◌∙◌}
use Rattle.growing.specs.RowLaws.{number_old, number_full, number_new}
use borrow.Author.Rules.{rules}
use Rattle.growing.proofs.Grown.number.Goals as goal

pub returns-in-Some : goal.returns-in-Some
returns-in-Some c = number_old _ c.args.self.now c.requires (search rules) _ (sym c.in-Some.is ∙ c.place.ensures)

pub returns-then-k-eq-MOST_STATES : goal.returns-then-k-eq-MOST_STATES
returns-then-k-eq-MOST_STATES c =
    number_full _ c.args.self.now c.requires (search rules) (sym c.in_default.is ∙ c.place.ensures) c.if-k-eq-MOST_STATES.true

pub returns : goal.returns
returns c = number_new _ c.args.self.now c.requires (search rules) (sym c.in_default.is ∙ c.place.ensures) c.if-k-eq-MOST_STATES.false
