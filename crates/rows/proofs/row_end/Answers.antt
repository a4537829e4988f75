-- `rows::row_end` meets its contract: what is left of the row from each place on ends where the row does.
-- Assumes nothing.
use Rattle.rows.specs.RowsLaws.{row-end-found, row-end-turn, row_end_over}
use mathlib.Core.Path.{refl}
use borrow.Author.Rules.{rules}
use Rattle.rows.proofs.row_end.Goals as goal

pub loop-i-init : goal.loop-i-init
loop-i-init c = refl

pub returns-then-ends_at : goal.returns-then-ends_at
returns-then-ends_at c = search (rules, row-end-found)

pub loop-i-preserved : goal.loop-i-preserved
loop-i-preserved c = search (rules, row-end-turn)

pub returns : goal.returns
returns c = search (rules, row_end_over)
