-- What the loops of `growing::Grown::row` keep.
use Rattle.std.specs.Prelude.{length}
use Rattle.growing.specs.RowLaws.{Rowing}
use Rattle.growing.proofs.Grown.row.Given as goal

abbrev pub invariant-loop-e : goal.invariant-loop-e
invariant-loop-e l = Rowing l.to (length l.to) l.i l.initial.self l.self l.e
