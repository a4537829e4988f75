-- `turns::take_row` meets its contract: the row at the offset, then the place after it.
-- Assumes nothing.
use mathlib.Core.Path.{refl}
use Rattle.rows.specs.TextLaws.{row_within}
use Rattle.turns.specs.TurnsLaws.{turn_adds, turn_refused, turn_taken}
use native.Mathlib.Omega.{arith}
use borrow.Author.Rules.{rules}
use Rattle.turns.proofs.take_row.Goals as goal

pub slice_bounds-step_row-end : goal.slice_bounds-step_row-end
slice_bounds-step_row-end c = let k = row_within _ _ _ c.row_end-end.ensures (let o = c.requires.1.row in omega arith) in search rules

pub returns-then-a-ne-TAKEN : goal.returns-then-a-ne-TAKEN
returns-then-a-ne-TAKEN c = turn_refused _ _ _ _ _ _ c.requires.1 _ c.row_end-end.ensures _ _ _ _ c.step_row-a.ensures c.if-a-ne-TAKEN.true _ refl

pub overflow_add-result-2 : goal.overflow_add-result-2
overflow_add-result-2 c = let b = c.requires.1.lent in let k = turn_adds _ _ _ _ _ _ c.requires.1 _ c.row_end-end.ensures _ _ _ _ c.step_row-a.ensures c.if-a-ne-TAKEN.false in search rules

pub returns : goal.returns
returns c = turn_taken _ _ _ _ _ _ c.requires.1 _ c.row_end-end.ensures _ _ _ _ c.step_row-a.ensures _ c.next_row-after.ensures c.if-a-ne-TAKEN.false _ refl
