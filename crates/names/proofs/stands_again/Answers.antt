-- `names::stands_again` meets its contract: the field is the same as one of those after it if it stands among them.
-- Assumes nothing.
use Rattle.std.specs.Prelude.{◌+◌, eqb}
use Rattle.std.proofs.Common.{refl, rules, tests, ◌∙◌}
use Rattle.std.proofs.lemmas.Iterator.{YieldsList-from_range}
use Rattle.std.proofs.lemmas.Iterator.Search.{any_from_yields_List}
use lib.Pointwise.{pointwise}
use Rattle.document.specs.Rows.{field}
use Rattle.names.specs.MarksLaws.{some_same}
use Rattle.names.proofs.stands_again.Goals as goal

pub returns : goal.returns
returns c =
    let row = c.args.row.now.bytes.now in
    let name = field row c.args.at in
    let passes = any_from_yields_List (λ k. pointwise eqb name (field row k)) _ _ _ c.any.ensures.ran (YieldsList-from_range (c.args.at + 1) c.args.row.now.fields.count _ refl refl) (λ x b q k. search (rules, tests)) in
    passes ∙ some_same row c.args.row.now.fields c.args.row.now.split c.requires.1 name (c.args.at + 1) _ refl
