-- What the loop of `fields::field_end` keeps.
use Rattle.std.specs.Prelude.{◌+◌, ◌≡◌, drop}
use Rattle.fields.specs.Split.{up_to_comma}
use Rattle.fields.proofs.field_end.Given as goal

abbrev pub invariant-loop-i : goal.invariant-loop-i
invariant-loop-i l = l.i + up_to_comma (drop l.i l.row) ≡ l.start + up_to_comma (drop l.start l.row)
