-- `hopes::rounds` meets its contract: what was found in the rounds so far is what the definition finds in as many.
-- Assumes nothing.
use Rattle.hopes.specs.LeadsLaws.{rounds_begin, rounds_turn, rounds_end, rounds_same}
use borrow.Author.Rules.{rules}
use Rattle.hopes.proofs.rounds.Goals as goal

pub loop-done-init : goal.loop-done-init
loop-done-init c = rounds_begin _ _ _

pub returns-then-more-found : goal.returns-then-more-found
returns-then-more-found c = search (rules, rounds_same)

pub loop-done-preserved : goal.loop-done-preserved
loop-done-preserved c = search (rules, rounds_turn)

pub returns : goal.returns
returns c = search (rules, rounds_end)
