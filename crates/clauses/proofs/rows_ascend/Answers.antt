-- `clauses::rows_ascend` meets its contract: each row but the first is tested after the one before it.
-- Assumes nothing.
use Rattle.std.specs.Prelude.{◌-◌}
use Rattle.std.proofs.Common.{rules, refl, ◌∙◌}
use Rattle.std.proofs.lemmas.Iterator.{YieldsList-from_range}
use Rattle.std.proofs.lemmas.Iterator.Search.{all_from_yields_List}
use borrow.Author.Tests.{tests}
use Rattle.clauses.specs.LibraryLaws.{follows, all_ascending}
use Rattle.clauses.specs.RowsLaws.{row_of}
use Rattle.clauses.proofs.rows_ascend.Goals as goal

pub returns : goal.returns
returns c =
    all_from_yields_List (follows (row_of c.args.stride c.args.t.now)) c.all.new.self _ _ c.all.ensures.ran
    (YieldsList-from_range 1 c.args.n (c.args.n - 1) (cc) refl) (λ x b q k. search (rules, tests))
    ∙ all_ascending c.args.stride c.args.n c.args.t.now
