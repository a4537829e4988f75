-- What the loop of `rowfields::values_said` keeps.
use Rattle.rowfields.specs.SaidLaws.{Reading}
use Rattle.rowfields.proofs.values_said.Given as goal

abbrev pub invariant-loop-k : goal.invariant-loop-k
invariant-loop-k l = Reading l.row l.values l.parameters l.k l.end
