-- `states::verdicts` meets its contract: the states gone through have their verdicts, and the others 0.
-- Assumes nothing.
use Rattle.states.specs.VerdictLaws.{judged_none, judged-more, judged_all}
use borrow.Author.Rules.{rules}
use Rattle.states.proofs.verdicts.Goals as goal

pub loop-s-init : goal.loop-s-init
loop-s-init c = judged_none _ _ _

pub loop-s-preserved : goal.loop-s-preserved
loop-s-preserved c = search (rules, judged-more)

pub returns : goal.returns
returns c = search (rules, judged_all)
