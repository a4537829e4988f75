-- What the loop of `keeping::grow` keeps.
use Rattle.keeping.specs.GrowLaws.{Growing}
use Rattle.keeping.proofs.grow.Given as goal

abbrev pub invariant-loop-i : goal.invariant-loop-i
invariant-loop-i l = Growing l.known.next l.known.states l.known.hopeful l.event.number l.seen.count l.m l.i l.count l.event.binding l.seen.numbers.now l.initial.kept l.kept l.event.fresh
