-- What the loop of `printing::print` keeps, and why it ends.
use Prim.Native.Nat.{◌-◌}
use lib.ListN.{length}
use Rattle.property.specs.Meaning.{meaning}
use Rattle.judge.specs.Sound.{session_of}
use Rattle.turns.specs.Stepping.{read_as}
use Rattle.printing.specs.Printing.{print_call, prints_to}
use Rattle.printing.specs.Prints.{OnTheWay}
use Rattle.printing.proofs.print.Given as goal

abbrev pub invariant-loop-r : goal.invariant-loop-r
invariant-loop-r l =
    let s = session_of l.n l.m l.initial.seen l.initial.kept in
    let answer = print_call l.declarations (meaning l.fn.p) s l.initial.reports l.log l.at l.number (length l.initial.text) in
    OnTheWay (read_as l.call) (meaning l.fn.p) l.log (prints_to l.at l.number s l.initial.reports answer) l.initial.text l.r l.seen l.kept l.reports l.text

abbrev pub decreases-loop-r : goal.decreases-loop-r
decreases-loop-r l = length l.log - l.r.next
