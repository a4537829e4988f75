-- `writing::write_down` meets its contract: the reports, if there are any, then both tables.
-- Assumes nothing.
use Rattle.std.proofs.Common.{◌∙◌}
use Rattle.writing.specs.WriteLaws.{tells_none, tells_reportable, tells-some}
use borrow.Author.Rules.{rules}
use Rattle.writing.proofs.write_down.Goals as goal
use Rattle.writing.proofs.write_down.Goals.{then-o-ne0, else-o-ne0}

pub report-requires : goal.report-requires
report-requires c = search (rules, tells_reportable)

pub returns : goal.returns
returns c = record {
  seen_to = c.see.ensures;
  kept_to = c.keep_rows.ensures;
  reports_to = elim c.if-o-ne0.branch [
    | then-o-ne0 w ↦ w.reports-is ∙ (tells-some _ _ _ _ _ _ _ _ _ _ _ _ _ _ c.requires _ _ w.if-o-ne0.true (search rules) w.report.ensures).told
    | else-o-ne0 w ↦ w.reports-is ∙ (tells_none _ _ _ _ _ _ _ _ _ _ _ _ _ _ c.requires w.if-o-ne0.false).told
  ];
}
