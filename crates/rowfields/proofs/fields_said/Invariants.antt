-- What the loop of `rowfields::fields_said` keeps.
use Rattle.rowfields.specs.ValuesLaws.{Counting}
use Rattle.rowfields.proofs.fields_said.Given as goal

abbrev pub invariant-loop-b : goal.invariant-loop-b
invariant-loop-b l = Counting l.row l.count l.b-index
