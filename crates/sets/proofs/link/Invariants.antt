-- What the loop of `sets::link` keeps.
use mathlib.Core.Bool.{cond}
use lib.ListN.{get_or}
use lib.Bits.{bit_or}
use Rattle.document.specs.Positions.{holds}
use Rattle.sets.specs.ShapesLaws.{Filling}
use Rattle.sets.proofs.link.Given as goal

abbrev pub invariant-loop-i : goal.invariant-loop-i
invariant-loop-i l = Filling 32 (λ k. bit_or (get_or l.a k 0) (cond (holds l.last k) l.first 0)) l.a l.linked l.i
