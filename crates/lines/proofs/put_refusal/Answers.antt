-- `lines::put_refusal` meets its contract.
-- Assumes nothing.
use Rattle.lineparts.specs.LinesLaws.{refusal-written}
use borrow.Author.Rules.{rules}
use Rattle.lines.proofs.put_refusal.Goals as goal

pub returns : goal.returns
returns c = search (rules, refusal-written)
