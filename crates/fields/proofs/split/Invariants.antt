-- What the loops of `fields::split` keep, and why they end.
use lib.ListN.{length}
use Rattle.fields.specs.SplitLaws.{Collects}
use Prim.Native.Nat.{◌-◌}
use Rattle.fields.proofs.split.Given as goal

abbrev pub invariant-loop-end : goal.invariant-loop-end
invariant-loop-end l = Collects l.bytes l.start l.end l.fields

abbrev pub decreases-loop-end : goal.decreases-loop-end
decreases-loop-end l = length l.bytes - l.end
