-- What the loop of `fields::field_place` keeps.
use Rattle.std.specs.Prelude.{◌-◌}
use Rattle.fields.specs.SplitLaws.{Walk}
use Rattle.fields.proofs.field_place.Given as goal

abbrev pub invariant-loop-passed : goal.invariant-loop-passed
invariant-loop-passed l = Walk l.row l.number l.start l.end (l.number - l._passed)
