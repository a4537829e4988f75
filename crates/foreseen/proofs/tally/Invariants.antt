-- What the loop of `foreseen::tally` keeps.
use Rattle.moves.specs.Ready.{Ready}
use Rattle.foreseen.specs.CountLaws.{Tallied}
use Rattle.foreseen.proofs.tally.Given as goal

abbrev pub invariant-loop-i : goal.invariant-loop-i
invariant-loop-i l = Ready l.known.next l.known.states l.event.number l.seen.count l.m l.event.binding l.seen.numbers.now l.kept l.event.fresh × Tallied l.known.next l.known.hopeful l.known.asked l.event.number l.seen.count l.i l.event.binding l.seen.numbers.now l.kept l.total.kept l.total.reported
