-- What the loop of `lines::put_reports` keeps: the lines of the reports before the one reached stand.
use Rattle.std.proofs.Common.{◌*◌, ◌≡◌, length}
use Rattle.document.specs.Printing.{report_lines}
use Rattle.decimals.specs.Written.{Written}
use Rattle.lineparts.specs.Lines.{most_line}
use Rattle.lines.proofs.put_reports.Given as goal

abbrev pub invariant-loop-report : goal.invariant-loop-report
invariant-loop-report l = record {
  length_kept : length l.text ≡ length l.initial.text;
  written : Written l.at (l.report-index * most_line) (report_lines l.parameters l.row l.report-index l.fn.reports) l.initial.text l.text l.next;
}
