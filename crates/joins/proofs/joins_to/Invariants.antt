-- What the loop of `joins::joins_to` keeps.
use Rattle.joins.specs.JoinLaws.{Covered}
use Rattle.joins.proofs.joins_to.Given as goal

abbrev pub invariant-loop-set : goal.invariant-loop-set
invariant-loop-set l = Covered l.seen.count l.seen.numbers.now l.c l.k l.set
