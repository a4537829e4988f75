-- `spans::end_place` meets its contract: after all rows, or before the first that begins with a greater number.
-- Assumes nothing.
use Rattle.spans.specs.SpanLaws.{ends_unbound, ends_of}
use borrow.Author.Rules.{rules}
use Rattle.spans.proofs.end_place.Goals as goal

pub returns-then-first-eq0 : goal.returns-then-first-eq0
returns-then-first-eq0 c = search (rules, ends_unbound)

pub returns : goal.returns
returns c = search (rules, ends_of)
