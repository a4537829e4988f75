-- What the loops of `names::set_of` keep.
use Rattle.names.specs.MarksLaws.{Sums}
use Rattle.names.proofs.set_of.Given as goal

abbrev pub invariant-loop-k : goal.invariant-loop-k
invariant-loop-k l = Sums l.row.bytes.now l.set l.bit l.k
