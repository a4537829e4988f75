-- `hopes::asked_states` meets its contract: a state passes the test if its verdict is asked for.
-- Assumes nothing.
use Rattle.hopes.specs.LeadsLaws.{those_asked}
use borrow.Author.Rules.{rules}
use Rattle.hopes.proofs.asked_states.Goals as goal

pub returns : goal.returns
returns c = those_asked _ _ _ c.those.ensures (λ s b h. search rules)
