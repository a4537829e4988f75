-- What the loop of `logs::run` keeps, and why it ends.
use Prim.Native.Nat.{◌-◌}
use Rattle.document.specs.Log.{run}
use Rattle.property.specs.Meaning.{meaning}
use Rattle.judge.specs.Sound.{session_of}
use Rattle.turns.specs.Stepping.{read_as}
use Rattle.logs.specs.Running.{Going}
use Rattle.logs.proofs.run.Given as goal

abbrev pub invariant-loop-r : goal.invariant-loop-r
invariant-loop-r l =
    Going (read_as l.call) (meaning l.fn.p) l.log l.budget (run l.declarations (meaning l.fn.p) (session_of l.n l.m l.initial.seen l.initial.kept) l.initial.reports l.log l.at l.budget)
    l.r l.seen l.kept l.reports

abbrev pub decreases-loop-r : goal.decreases-loop-r
decreases-loop-r l = l.budget - l.r.taken
