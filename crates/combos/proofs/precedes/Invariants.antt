-- What the loop of `combos::precedes` keeps.
use Rattle.slices.specs.NumbersLaws.{Ordered}
use Rattle.combos.proofs.precedes.Given as goal

abbrev pub invariant-loop-j : goal.invariant-loop-j
invariant-loop-j l = Ordered l.c l.b l.j
