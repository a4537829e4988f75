-- `judge::rows_rightly_kept` meets its contract: the kept rows are tested one after another.
-- Assumes nothing.
use Rattle.std.proofs.Common.{rules, arith, ◌∙◌}
use Rattle.std.proofs.lemmas.Iterator.{YieldsList-from_range}
use Rattle.std.proofs.lemmas.Iterator.Search.{all_from_yields_List}
use borrow.Author.Tests.{tests}
use Rattle.document.specs.Positions.{holds}
use Rattle.document.specs.Tables.{seen_rows}
use Rattle.judge.specs.Sound.{rightly_kept_by}
use Rattle.judge.specs.SoundLaws.{kept_of_row, all_kept_rows}
use Rattle.judge.proofs.rows_rightly_kept.Goals as goal

pub returns : goal.returns
returns c =
    let a = c.args in
    let p = rightly_kept_by a.states (holds a.hopeful) (seen_rows a.seen.count a.seen.numbers.now) in
    all_from_yields_List (λ i. p (kept_of_row a.kept.now i)) c.all.new.self _ _ c.all.ensures.ran
    (YieldsList-from_range 0 a.m a.m (cc) (omega arith)) (λ x b q k. search (rules, tests))
    ∙ all_kept_rows p a.m a.kept.now
