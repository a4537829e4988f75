-- What the loops of `ordered::place` keep, and why they end.
use Prim.Native.Nat.{◌-◌}
use Rattle.ordered.specs.RowsLaws.{Searching}
use Rattle.ordered.proofs.place.Given as goal

abbrev pub invariant-loop-low : goal.invariant-loop-low
invariant-loop-low l = Searching l.base l.stride l.n l.t l.c l.low l.high

abbrev pub decreases-loop-low : goal.decreases-loop-low
decreases-loop-low l = l.high - l.low
