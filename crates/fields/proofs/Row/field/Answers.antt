-- `fields::Row::field` meets its contract: each place of a split row lies inside it and is that of its field.
-- Assumes nothing.
use Rattle.std.proofs.Common.{rules}
use Rattle.fields.specs.FieldsLaws.{split_at}
use Rattle.fields.proofs.Row.field.Goals as goal

pub returns : goal.returns
returns c = search (rules, split_at)
