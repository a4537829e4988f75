-- What the loop of `values::value_of` keeps.
use Rattle.values.specs.ValueLaws.{Digits}
use Rattle.values.proofs.value_of.Given as goal

abbrev pub invariant-loop-b : goal.invariant-loop-b
invariant-loop-b l = Digits l.f l.value l.b-index
