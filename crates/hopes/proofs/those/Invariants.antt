-- What the loops of `hopes::those` keep.
use Rattle.hopes.specs.Steps.{Those}
use Rattle.hopes.proofs.those.Given as goal

abbrev pub invariant-loop-s : goal.invariant-loop-s
invariant-loop-s g l = Those (goal.F-post g l.test) l.s l.found
