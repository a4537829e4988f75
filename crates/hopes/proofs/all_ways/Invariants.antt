-- What the loops of `hopes::all_ways` keep.
use Rattle.std.specs.Prelude.{◌≡◌, length}
use Rattle.document.specs.Limits.{most_states}
use Rattle.hopes.specs.Steps.{AllWays}
use Rattle.hopes.proofs.all_ways.Given as goal

abbrev pub invariant-loop-s : goal.invariant-loop-s
invariant-loop-s l = record {
  long : length l.found ≡ most_states;
  ways : AllWays l.taken.property.next l.allowed l.taken.property.events l.s l.found;
}
