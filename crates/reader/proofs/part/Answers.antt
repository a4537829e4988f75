-- `reader::part` meets its contract: places outside the log, or not in order, hold between them what the log has there.
-- Assumes nothing.
use Rattle.reader.specs.HandingLaws.{part_none, part_there}
use mathlib.Core.Path.{refl}
use borrow.Author.Rules.{rules}
use Rattle.reader.proofs.part.Goals as goal

pub returns-then-end-start : goal.returns-then-end-start
returns-then-end-start c = part_none _ _ _ _ c.then-end-start.either refl refl

pub returns : goal.returns
returns c = search (rules, part_there)
