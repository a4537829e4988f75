-- `window::judge_header` is safe: the row ends within what is held.
-- Assumes nothing.
use Rattle.std.proofs.Common.{rules, arith}
use Rattle.rows.specs.TextLaws.{row_within}
use Rattle.window.proofs.judge_header.Goals as goal

pub slice_bounds-header-end : goal.slice_bounds-header-end
slice_bounds-header-end c = let k = row_within _ _ _ c.row_end-end.ensures (omega arith) in search rules
