-- `names::has_repeat` meets its contract: some field stands again at one of the numbers if some stands twice.
-- Assumes nothing.
use Rattle.std.specs.Prelude.{◌+◌, drop}
use Rattle.std.proofs.Common.{refl, rules, tests, ◌∙◌}
use Rattle.std.proofs.lemmas.Iterator.{YieldsList-from_range}
use Rattle.std.proofs.lemmas.Iterator.Search.{any_from_yields_List}
use Rattle.document.specs.Lists.{among}
use Rattle.document.specs.Rows.{fields, field}
use Rattle.names.specs.MarksLaws.{some_again}
use Rattle.names.proofs.has_repeat.Goals as goal

pub returns : goal.returns
returns c =
    let row = c.args.row.now.bytes.now in
    let passes = any_from_yields_List (λ k. among (field row k) (drop (k + 1) (fields row))) _ _ _ c.any.ensures.ran (YieldsList-from_range 1 c.args.row.now.fields.count _ refl refl) (λ x b q k. search (rules, tests)) in
    passes ∙ some_again row c.args.row.now.fields c.args.row.now.split c.requires 1 _ refl
