-- `settling::includes_at` meets its contract: the row agrees with the binding at all parameters.
-- Assumes nothing.
use Rattle.spans.specs.AgreeLaws.{agrees_everywhere}
use borrow.Author.Rules.{rules}
use Rattle.settling.proofs.includes_at.Goals as goal

pub returns : goal.returns
returns c = search (rules, agrees_everywhere)
