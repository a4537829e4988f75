-- What the loops of `nexts::nexts` keep.
use Rattle.nexts.specs.Nexts.{nexts_of}
use mathlib.Core.Path.{◌≡◌}
use Rattle.nexts.proofs.nexts.Given as goal

abbrev pub invariant-loop-k : goal.invariant-loop-k
invariant-loop-k l = l.found ≡ nexts_of l.after l.set l.k
