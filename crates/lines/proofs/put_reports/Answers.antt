-- `lines::put_reports` meets its contract.
-- Assumes nothing.
use Rattle.std.proofs.Common.{rules, arith}
use Rattle.lineparts.specs.LinesLaws.{reports_begin, chunk_at, reports-turn, reports-end}
use Rattle.lines.proofs.put_reports.Goals as goal

pub loop-report-init : goal.loop-report-init
loop-report-init c = record { length_kept = search rules; written = search (rules, reports_begin) }

pub loop-report-preserved : goal.loop-report-preserved
loop-report-preserved c =
    let chunk = chunk_at _ c.loop-report.report-index c.args.count _ _ c.as_chunks.ensures.front (search rules) (omega arith) in
    record { length_kept = search rules; written = reports-turn _ _ _ _ _ _ _ _ _ _ _ chunk c.loop-report.invariant.written c.put_report-next.ensures }

pub returns : goal.returns
returns c = search (rules, reports-end)
