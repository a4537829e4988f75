-- `sets::link` meets its contract: the entries below the loop's number are linked.
-- Assumes nothing.
use native.Mathlib.Omega.{arith}
use lib.Bits.{or_zero_r}
use Rattle.sets.specs.Shapes.{link_of}
use Rattle.sets.specs.ShapesLaws.{filling_none, filling_more, filling_same, filling_all}
use borrow.Author.Rules.{rules}
use Rattle.sets.proofs.link.Goals as goal
use Rattle.sets.proofs.link.Goals.{then-has, else-has}
use Rattle.std.proofs.Common.{sym, ◌∙◌, ◌≡◌, true, false}
use Rattle.document.specs.Positions.{holds}

pub loop-i-init : goal.loop-i-init
loop-i-init c = filling_none _ _ _ (search rules)

pub loop-i-preserved : goal.loop-i-preserved
loop-i-preserved c = elim c.if-has.branch [
  | then-has w ↦
      let e : holds c.args.last c.loop-i.i ≡ true = sym c.has.ensures ∙ w.if-has.true in
      rw w.linked-is (filling_more _ _ _ _ _ _ c.loop-i.invariant (omega arith) (λ q. rw (e, q)))
  | else-has w ↦
      let e : holds c.args.last c.loop-i.i ≡ false = sym c.has.ensures ∙ w.if-has.false in
      rw w.linked-is (filling_more _ _ _ _ _ _ c.loop-i.invariant (omega arith) (λ q. rw (e, q)))
]

pub returns : goal.returns
unfolding link_of
returns c = filling_all _ _ _ _ _ c.loop-i.invariant (omega arith)
