-- What the loop of `advance::pass` keeps.
use Rattle.advance.specs.PassLaws.{Underway}
use Rattle.document.specs.Limits.{kept_stride}
use lib.ListN.{length, get_or}
use mathlib.Core.Path.{◌≡◌}
use Prim.Native.Nat.{◌*◌, ◌≤◌}
use Rattle.advance.proofs.pass.Given as goal

abbrev pub invariant-loop-row : goal.invariant-loop-row
invariant-loop-row l = (l.first ≡ get_or l.b 0 0) × (l.m * kept_stride ≤ length l.kept) × (l.left ≤ l.row) × Underway l.known.next l.known.verdicts l.known.states l.known.hopeful l.known.asked l.e l.m l.from l.low l.row l.left l.reported l.b l.initial.kept l.kept l.initial.reports l.reports
