-- What the loop of `nexts::moves` keeps.
use Rattle.sets.specs.ShapesLaws.{Filled}
use mathlib.Core.Path.{◌≡◌}
use Rattle.nexts.specs.Nexts.{nexts_of, move_of}
use Rattle.nexts.proofs.moves.Given as goal

abbrev pub invariant-loop-e : goal.invariant-loop-e
invariant-loop-e l = (l.reach ≡ nexts_of l.after l.set 32) × Filled 16 (move_of l.after l.named l.base l.set) l.to l.e
