-- `names::set_of` meets its contract: what was added so far and what the marks from each place on add is the set.
-- Assumes nothing.
use Rattle.std.proofs.Common.{[], ◌∷◌, rules, arith}
use Rattle.document.specs.Lists.{equal}
use Rattle.document.specs.Classes.{one_byte}
use Rattle.names.specs.MarksLaws.{worth_small, sums_none, sums_turn, sums_all}
use Rattle.names.proofs.set_of.Goals as goal

pub loop-k-init : goal.loop-k-init
loop-k-init c = sums_none _

pub overflow_add-set : goal.overflow_add-set
overflow_add-set c = omega (arith, worth_small (equal c.field.result.now (one_byte ∷ [])) _ _ c.worth-set.ensures)

pub loop-k-preserved : goal.loop-k-preserved
loop-k-preserved c = search (rules, sums_turn)

pub returns : goal.returns
returns c = search (rules, sums_all)
