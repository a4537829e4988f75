-- `translate::table_of` meets its contract: too many states, or the table by its fields.
-- Assumes nothing.
use Rattle.translate.specs.TranslationsLaws.{tables_over, tables_all}
use Rattle.translate.proofs.table_of.Goals as goal

pub returns-in_default : goal.returns-in_default
returns-in_default c = tables_over _ _ _ c.table_of.ensures _ c.in_default.is c.refused_at.ensures

pub returns : goal.returns
returns c = tables_all _ _ _ c.table_of.ensures _ c.in-Some.is
