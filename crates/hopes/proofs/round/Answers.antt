-- `hopes::round` meets its contract: a state passes the test if its ways meet the goal.
-- Assumes nothing.
use Rattle.hopes.specs.LeadsLaws.{those_meet}
use borrow.Author.Rules.{rules}
use Rattle.hopes.proofs.round.Goals as goal

pub returns : goal.returns
returns c = those_meet _ _ _ _ _ c.those.ensures (λ s b h. search rules)
