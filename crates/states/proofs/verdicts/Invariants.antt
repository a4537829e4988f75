-- What the loops of `states::verdicts` keep.
use Rattle.states.specs.VerdictLaws.{Judged}
use Rattle.states.proofs.verdicts.Given as goal

abbrev pub invariant-loop-s : goal.invariant-loop-s
invariant-loop-s l = Judged l.shape.null l.shape.last l.sets l.s l.found
