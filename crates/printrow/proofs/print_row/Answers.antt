-- `printrow::print_row` meets its contract.
-- Assumes nothing.
use mathlib.Core.Path.{refl}
use native.Mathlib.Omega.{arith}
use Rattle.rows.specs.TextLaws.{row_within}
use Rattle.printrow.specs.RowLaws.{text_fits, row-printed}
use borrow.Author.Rules.{rules}
use Rattle.printrow.proofs.print_row.Goals as goal

pub slice_bounds-row-end : goal.slice_bounds-row-end
slice_bounds-row-end c = omega (arith, row_within _ _ _ c.row_end-end.ensures (search (rules, c.requires.1.row)))

pub put_row-filled-requires : goal.put_row-filled-requires
put_row-filled-requires c = search (rules, text_fits)

pub returns : goal.returns
returns c = row-printed _ _ _ _ _ _ _ _ c.requires.1 _ c.row_end-end.ensures _ _ _ _
    c.step_row-a.ensures _ _ _ c.put_row-filled.ensures c.next_row-after.ensures _ refl
