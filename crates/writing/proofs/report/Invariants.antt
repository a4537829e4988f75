-- What the loop of `writing::report` keeps.
use Rattle.writing.specs.ReportLaws.{Reporting}
use Rattle.writing.proofs.report.Given as goal

abbrev pub invariant-loop-i : goal.invariant-loop-i
invariant-loop-i l = Reporting l.known.next l.known.verdicts l.known.states l.known.asked l.event.number l.seen.count l.m l.i l.from l.count l.event.binding l.seen.numbers.now l.kept l.initial.reports l.reports l.event.fresh
