-- What the loops of `declaring::read` keep, and why they end.
use lib.ListN.{length}
use Rattle.declaring.specs.TextReadsLaws.{Going}
use Prim.Native.Nat.{◌-◌}
use Rattle.declaring.proofs.read.Given as goal

abbrev pub invariant-loop-at : goal.invariant-loop-at
invariant-loop-at l = Going l.text l.at l.t

abbrev pub decreases-loop-at : goal.decreases-loop-at
decreases-loop-at l = length l.text - l.at
