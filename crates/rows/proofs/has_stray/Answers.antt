-- `rows::has_stray` meets its contract: some byte is a CR or an LF.
-- Assumes nothing.
use Rattle.std.specs.Prelude.{eqb, ◌||◌}
use Rattle.std.proofs.Common.{rules, tests, ◌∙◌}
use Rattle.std.proofs.lemmas.Iterator.{YieldsList-from_slice}
use Rattle.std.proofs.lemmas.Iterator.Search.{any_from_yields_List}
use Rattle.document.specs.Classes.{cr, lf}
use Rattle.rows.specs.RowsLaws.{stray_some}
use Rattle.rows.proofs.has_stray.Goals as goal

pub returns : goal.returns
returns c =
    let found = any_from_yields_List (λ b. eqb b cr || eqb b lf) _ _ _ c.any.ensures.ran (YieldsList-from_slice c.args.row.now cc) (λ x b q k. search (rules, tests)) in
    found ∙ stray_some c.args.row.now
