-- `hopes::all_ways` meets its contract: each state gone through has its ways.
-- Assumes nothing.
use Rattle.hopes.specs.LeadsLaws.{all_ways_none, all_ways_more, all_ways_all}
use borrow.Author.Rules.{rules}
use Rattle.hopes.proofs.all_ways.Goals as goal

pub loop-s-init : goal.loop-s-init
loop-s-init c = record { long = search rules; ways = all_ways_none _ _ _ _ }

pub loop-s-preserved : goal.loop-s-preserved
loop-s-preserved c = record { long = search rules; ways = all_ways_more _ _ _ _ _ _ c.loop-s.invariant.ways (search rules) c.ways.ensures }

pub returns : goal.returns
returns c = search (rules, all_ways_all)
