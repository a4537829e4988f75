-- What the loops of `inplace::walk` keep, and why they end.
use Rattle.inplace.specs.WalkLaws.{Going}
use Rattle.document.specs.Limits.{width, kept_stride, most_events}
use lib.ListN.{length}
use Prim.Native.Nat.{◌-◌, ◌*◌, ◌<◌, ◌≤◌}
use Rattle.inplace.proofs.walk.Given as goal

abbrev pub invariant-loop-i : goal.invariant-loop-i
invariant-loop-i l = (l.m * kept_stride ≤ length l.kept) × (l.end ≤ l.m) × (l.last < width) × (l.e < most_events) × Going l.known.next l.known.states l.known.hopeful l.known.asked l.e l.m l.i l.b l.low l.end l.last l.number l.initial.kept l.kept

abbrev pub decreases-loop-i : goal.decreases-loop-i
decreases-loop-i l = l.end - l.i
