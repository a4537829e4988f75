-- What the loop of `parts::marks` keeps, and why it ends.
use lib.ListN.{length}
use Rattle.parts.specs.ReadersLaws.{Marking}
use Prim.Native.Nat.{◌-◌}
use Rattle.parts.proofs.marks.Given as goal

abbrev pub invariant-loop-r : goal.invariant-loop-r
invariant-loop-r l = Marking l.text l.initial.r l.r

abbrev pub decreases-loop-r : goal.decreases-loop-r
decreases-loop-r l = length l.text - l.r.at
