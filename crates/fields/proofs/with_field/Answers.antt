-- `fields::with_field` meets its contract: a field that has no place is only counted.
-- Assumes nothing.
use borrow.Author.Tests.{le-leb, lt-leb}
use Rattle.fields.specs.Split.{added}
use Rattle.fields.proofs.with_field.Goals as goal

pub returns-then-at-ge-MOST_FIELDS : goal.returns-then-at-ge-MOST_FIELDS
unfolding added
returns-then-at-ge-MOST_FIELDS c = rw (le-leb _ _ c.if-at-ge-MOST_FIELDS.true)

pub returns : goal.returns
unfolding added
returns c = rw (lt-leb _ _ c.if-at-ge-MOST_FIELDS.false)
