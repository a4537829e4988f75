-- What the loops of `hopes::rounds` keep.
use Rattle.std.specs.Prelude.{length}
use Rattle.hopes.specs.LeadsLaws.{Rounds}
use Rattle.hopes.proofs.rounds.Given as goal

abbrev pub invariant-loop-done : goal.invariant-loop-done
invariant-loop-done l = Rounds l.ways (length l.ways) l.marked l._done l.found
