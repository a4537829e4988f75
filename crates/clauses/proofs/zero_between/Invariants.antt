-- What the loop of `clauses::zero_between` keeps.
use Rattle.clauses.specs.RowsLaws.{Zeros}
use Rattle.clauses.proofs.zero_between.Given as goal

abbrev pub invariant-loop-p : goal.invariant-loop-p
invariant-loop-p l = Zeros l.from l.to l.t l.p
