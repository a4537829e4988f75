-- `clauses::rows_bound` meets its contract: the rows are tested one after another.
-- Assumes nothing.
use Rattle.std.proofs.Common.{rules, arith, ◌∙◌}
use Rattle.std.proofs.lemmas.Iterator.{YieldsList-from_range}
use Rattle.std.proofs.lemmas.Iterator.Search.{all_from_yields_List}
use borrow.Author.Tests.{tests}
use Rattle.document.specs.Limits.{seen_stride}
use Rattle.clauses.specs.LibraryLaws.{all_rows}
use Rattle.clauses.specs.RowsLaws.{not_empty, row_of}
use Rattle.clauses.proofs.rows_bound.Goals as goal

pub returns : goal.returns
returns c =
    all_from_yields_List (λ i. not_empty (row_of seen_stride c.args.t.now i)) c.all.new.self _ _ c.all.ensures.ran
    (YieldsList-from_range 0 c.args.n c.args.n (cc) (omega arith)) (λ x b q k. search (rules, tests))
    ∙ all_rows not_empty seen_stride c.args.n c.args.t.now
