-- `bound::binds_exactly` meets its contract: each number is bound exactly if the set holds its parameter.
-- Assumes nothing.
use Rattle.std.proofs.Common.{rules, refl, ◌∙◌}
use Rattle.std.proofs.lemmas.Iterator.{YieldsList-from_range}
use Rattle.std.proofs.lemmas.Iterator.Search.{all_from_yields_List}
use borrow.Author.Tests.{tests}
use Rattle.document.specs.Limits.{width}
use Rattle.bound.specs.LibraryLaws.{bound_as, all_binds_exactly}
use Rattle.bound.proofs.binds_exactly.Goals as goal

pub returns : goal.returns
returns c =
    all_from_yields_List (bound_as c.args.set c.args.c) c.all.new.self _ _ c.all.ensures.ran
    (YieldsList-from_range 0 width width (cc) refl) (λ x b q k. search (rules, tests))
    ∙ all_binds_exactly c.args.set c.args.c (search rules)
