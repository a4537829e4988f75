-- `bound::zero_past` meets its contract: each number past the first n is 0.
-- Assumes nothing.
use Rattle.std.proofs.Common.{rules, ◌∙◌}
use Rattle.std.proofs.lemmas.Iterator.{YieldsList-from_slice}
use Rattle.std.proofs.lemmas.Iterator.Adapters.{YieldsList-from_skip}
use Rattle.std.proofs.lemmas.Iterator.Search.{all_from_yields_List}
use borrow.Author.Tests.{tests}
use Rattle.bound.specs.LibraryLaws.{unbound, all_zero_past}
use Rattle.bound.proofs.zero_past.Goals as goal

pub returns : goal.returns
returns c =
    all_from_yields_List unbound c.all.new.self _ _ c.all.ensures.ran
    (YieldsList-from_skip c.args.n (YieldsList-from_slice c.args.c cc) (cc)) (λ x b q k. search (rules, tests))
    ∙ all_zero_past c.args.n c.args.c
