-- What the loops of `growing::grow` keep, and why they end.
use Rattle.growing.specs.GrowLaws.{Growing}
use Prim.Native.Nat.{◌-◌}
use Rattle.growing.proofs.grow.Given as goal

abbrev pub invariant-loop-i : goal.invariant-loop-i
invariant-loop-i l = Growing l.after l.named l.base l.events l.grown.sets l.grown.next l.grown.count l.i

abbrev pub decreases-loop-i : goal.decreases-loop-i
decreases-loop-i l = 64 - l.i
