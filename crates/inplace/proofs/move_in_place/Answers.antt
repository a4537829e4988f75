-- `inplace::move_in_place` meets its contract: where the rows stand that may include the binding, then the walk over them.
-- Assumes nothing.
use Rattle.std.proofs.Common.{refl}
use Rattle.spans.specs.SpanLaws.{rising_of, spans_of}
use Rattle.inplace.specs.WalkLaws.{moved_in_place}
use borrow.Author.Rules.{rules}
use Rattle.inplace.proofs.move_in_place.Goals as goal

pub first_place-low-requires : goal.first_place-low-requires
first_place-low-requires c = search (rules, rising_of)

pub end_place-end-requires : goal.end_place-end-requires
end_place-end-requires c = search (rules, rising_of)

pub walk-row-requires : goal.walk-row-requires
walk-row-requires c = (search rules, spans_of _ _ _ _ _ _ _ c.requires.wide (search rules) refl c.first_place-low.ensures c.end_place-end.ensures)

pub returns : goal.returns
returns c = moved_in_place _ _ _ _ _ _ _ _ _ _ _ _ (spans_of _ _ _ _ _ _ _ c.requires.wide (search rules) refl c.first_place-low.ensures c.end_place-end.ensures) c.walk-row.ensures
