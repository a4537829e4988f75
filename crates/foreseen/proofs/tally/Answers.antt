-- `foreseen::tally` meets its contract: the rows passed are counted.
-- Assumes nothing.
use native.Mathlib.Omega.{arith}
use Rattle.moves.specs.ReadyLaws.{ready_row}
use Rattle.foreseen.specs.CountLaws.{tallied_begins, weight_small, tallied_turn, tallied_ends}
use borrow.Author.Rules.{rules}
use Rattle.foreseen.proofs.tally.Goals as goal

pub loop-i-init : goal.loop-i-init
loop-i-init c = (search rules, search (rules, tallied_begins))

pub weigh-w-requires : goal.weigh-w-requires
weigh-w-requires c = search (rules, ready_row)

pub overflow_add-total : goal.overflow_add-total
overflow_add-total c = let v = c.loop-i.invariant in let r = v.0.rows.inside in let f = v.1.few_kept in let w = weight_small _ _ _ _ _ _ _ _ c.weigh-w.ensures in omega arith

pub overflow_add-total-in-loop-i : goal.overflow_add-total-in-loop-i
overflow_add-total-in-loop-i c = let v = c.loop-i.invariant in let r = v.0.rows.inside in let f = v.1.few_reported in let w = weight_small _ _ _ _ _ _ _ _ c.weigh-w.ensures in omega arith

pub loop-i-preserved : goal.loop-i-preserved
loop-i-preserved c = (search rules, search (rules, tallied_turn))

pub returns : goal.returns
returns c = search (rules, tallied_ends)
