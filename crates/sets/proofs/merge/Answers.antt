-- `sets::merge` meets its contract: the entries below the loop's number are joined.
-- Assumes nothing.
use native.Mathlib.Omega.{arith}
use Rattle.std.proofs.Common.{ap}
use lib.Bits.{bit_or}
use lib.ListN.{get_or}
use Rattle.sets.specs.Shapes.{merge_of}
use Rattle.sets.specs.ShapesLaws.{filling_none, filling_more, filling_all}
use borrow.Author.Rules.{rules}
use Rattle.sets.proofs.merge.Goals as goal

pub loop-i-init : goal.loop-i-init
loop-i-init g c = filling_none _ _ _ (search rules)

pub loop-i-preserved : goal.loop-i-preserved
loop-i-preserved g c = filling_more _ _ _ _ _ _ c.loop-i.invariant (omega arith) (λ e. ap (λ x. bit_or x (get_or c.args.b.now c.loop-i.i 0)) e)

pub returns : goal.returns
unfolding merge_of
returns g c = filling_all _ _ _ _ _ c.loop-i.invariant (omega arith)
