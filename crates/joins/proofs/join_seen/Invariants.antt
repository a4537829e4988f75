-- What the loop of `joins::join_seen` keeps.
use Rattle.joins.specs.JoinLaws.{Gathered}
use Rattle.joins.proofs.join_seen.Given as goal

abbrev pub invariant-loop-set : goal.invariant-loop-set
invariant-loop-set l = Gathered l.seen.count l.seen.numbers.now l.c l.acc l.set
