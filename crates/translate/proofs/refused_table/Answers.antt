-- `translate::refused_table` meets its contract.
-- Assumes nothing.
use Rattle.translate.specs.Translations.{refused_table}
use mathlib.Core.Path.{refl}
use Rattle.translate.proofs.refused_table.Goals as goal

pub returns : goal.returns
unfolding refused_table
returns c = refl
