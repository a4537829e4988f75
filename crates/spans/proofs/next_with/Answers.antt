-- `spans::next_with` meets its contract: the first row that has the number, or the end.
-- Assumes nothing.
use Rattle.std.proofs.Common.{rules}
use borrow.Author.Tests.{tests}
use Rattle.std.proofs.lemmas.Iterator.{first_from_Range}
use Rattle.spans.specs.FindLaws.{Has, found_of}
use Rattle.spans.proofs.next_with.Goals as goal

pub returns : goal.returns
returns c =
    found_of c.args.kept.now c.args.from c.args.end c.args.parameter c.args.number c.find.result _ c.requires.0
    (first_from_Range _ _ _ _ (Has c.args.kept.now c.args.from c.args.end c.args.parameter c.args.number) (λ k. Has c.args.kept.now c.args.from c.args.end c.args.parameter c.args.number k → ⊥) c.find.ensures.ran (λ x q k. search (rules, tests)) (λ x q k. search (rules, tests))) (search rules)
