-- `names::all_marks` meets its contract: the test at the numbers of the fields is the test of the fields.
-- Assumes nothing.
use Rattle.std.proofs.Common.{refl, rules, tests, ◌∙◌}
use Rattle.std.proofs.lemmas.Iterator.{YieldsList-from_range}
use Rattle.std.proofs.lemmas.Iterator.Search.{all_from_yields_List}
use Rattle.document.specs.Rows.{field}
use Rattle.document.specs.Declarations.{is_mark}
use Rattle.names.specs.MarksLaws.{all_pass}
use Rattle.names.proofs.all_marks.Goals as goal

pub returns : goal.returns
returns c =
    let passes = all_from_yields_List (λ k. is_mark (field c.args.row.now.bytes.now k)) _ _ _ c.all.ensures.ran (YieldsList-from_range 1 c.args.row.now.fields.count _ refl refl) (λ x b q k. search (rules, tests)) in
    passes ∙ all_pass c.args.row.now.bytes.now c.args.row.now.fields c.args.row.now.split c.requires is_mark 1 _ refl
