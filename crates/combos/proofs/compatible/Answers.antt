-- `combos::compatible` meets its contract: each pair of numbers suits.
-- Assumes nothing.
use Rattle.std.proofs.Common.{rules, ◌∙◌}
use Rattle.std.proofs.lemmas.Iterator.{YieldsList-from_slice, YieldsList-from_zip}
use Rattle.std.proofs.lemmas.Iterator.Search.{all_from_yields_List}
use borrow.Author.Tests.{tests}
use Rattle.combos.specs.LibraryLaws.{suits, all_compatible}
use Rattle.combos.proofs.compatible.Goals as goal

pub returns : goal.returns
returns c =
    all_from_yields_List suits c.all.new.self _ _ c.all.ensures.ran
    (YieldsList-from_zip (YieldsList-from_slice c.args.c cc) (YieldsList-from_slice c.args.b cc)) (λ x b q k. search (rules, tests))
    ∙ all_compatible c.args.c c.args.b (search rules)
