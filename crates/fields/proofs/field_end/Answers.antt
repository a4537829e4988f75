-- `fields::field_end` meets its contract: what is left of the field from each place on ends where the field does.
-- Assumes nothing.
use Rattle.fields.specs.SplitLaws.{field-end-found, field-end-turn, field_end_over}
use mathlib.Core.Path.{refl}
use borrow.Author.Rules.{rules}
use Rattle.fields.proofs.field_end.Goals as goal

pub loop-i-init : goal.loop-i-init
loop-i-init c = refl

pub returns-then-row-i-eq-COMMA : goal.returns-then-row-i-eq-COMMA
returns-then-row-i-eq-COMMA c = search (rules, field-end-found)

pub loop-i-preserved : goal.loop-i-preserved
loop-i-preserved c = search (rules, field-end-turn)

pub returns : goal.returns
returns c = search (rules, field_end_over)
