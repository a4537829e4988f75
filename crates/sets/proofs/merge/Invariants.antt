-- What the loop of `sets::merge` keeps.
use lib.ListN.{get_or}
use lib.Bits.{bit_or}
use Rattle.sets.specs.ShapesLaws.{Filling}
use Rattle.sets.proofs.merge.Given as goal

abbrev pub invariant-loop-i : goal.invariant-loop-i
invariant-loop-i g l = Filling g.row.N (λ k. bit_or (get_or l.a k 0) (get_or l.b k 0)) l.a l.joined l.i
