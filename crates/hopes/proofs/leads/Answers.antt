-- `hopes::leads` meets its contract: the rounds go over the ways that the table gives.
-- Assumes nothing.
use Rattle.hopes.specs.LeadsLaws.{reached_leads}
use borrow.Author.Rules.{rules}
use Rattle.hopes.proofs.leads.Goals as goal

pub returns : goal.returns
returns c = reached_leads _ _ _ _ _ c.all_ways-ways.ensures (search rules) c.rounds.ensures
