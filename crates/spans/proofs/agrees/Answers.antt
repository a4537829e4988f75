-- `spans::agrees` meets its contract: the search for a parameter that differs finds none, or one.
-- Assumes nothing.
use Rattle.std.proofs.Common.{rules, refl}
use borrow.Author.Tests.{tests}
use Rattle.std.proofs.lemmas.Iterator.{cases_from_all, YieldsList-from_range}
use Rattle.spans.specs.Spans.{Agree}
use Rattle.spans.specs.AgreeLaws.{Differ, agrees_of}
use Rattle.spans.proofs.agrees.Goals as goal

pub returns : goal.returns
returns c =
    agrees_of c.args.kept.now c.args.at c.args.b c.args.from c.args.to _ c.requires.1
    (cases_from_all _ _ _ (Agree c.args.kept.now c.args.at c.args.b) (Differ c.args.kept.now c.args.at c.args.b) c.all.ensures.ran
    (YieldsList-from_range c.args.from c.args.to _ refl refl) (λ x q k. search (rules, tests)) (λ x q k. search (rules, tests)))
