-- What the loops of `hopes::ways` keep.
use Rattle.hopes.specs.Steps.{Ways}
use Rattle.hopes.proofs.ways.Given as goal

abbrev pub invariant-loop-e : goal.invariant-loop-e
invariant-loop-e l = Ways l.taken.property.next l.allowed l.e l.s l.found
