-- `rows::ends_at` meets its contract: a line end is a CR and an LF, and there are two bytes to it.
-- Assumes nothing.
use Rattle.std.proofs.Common.{rules}
use Rattle.rows.specs.RowsLaws.{ends_row_end, ends_row_no_cr, ends_row_lf}
use Rattle.rows.proofs.ends_at.Goals.{then-s-i-via-then-s-i, then-s-i-via-else-s-i+then-s-i-ne-CR}
use Rattle.rows.proofs.ends_at.Goals as goal

pub returns-then-s-i : goal.returns-then-s-i
returns-then-s-i c = elim c.then-s-i.branch [
  | then-s-i-via-then-s-i w ↦ search (rules, ends_row_end)
  | then-s-i-via-else-s-i+then-s-i-ne-CR w ↦ search (rules, ends_row_no_cr)
]

pub returns : goal.returns
returns c = search (rules, ends_row_lf)
