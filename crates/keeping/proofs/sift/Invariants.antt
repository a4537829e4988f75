-- What the loop of `keeping::sift` keeps.
use Rattle.keeping.specs.SiftLaws.{Sifting}
use Rattle.keeping.proofs.sift.Given as goal

abbrev pub invariant-loop-i : goal.invariant-loop-i
invariant-loop-i l = Sifting l.known.next l.known.states l.known.hopeful l.event.number l.m l.i l.o l.event.binding l.initial.kept l.kept
