-- `keeping::keep_rows` meets its contract: rows in place, then rows created, then 0.
-- Assumes nothing.
use Rattle.keeping.specs.KeepLaws.{keep_siftable, keep_growable, kept_written_old, kept_written_new}
use borrow.Author.Rules.{rules}
use Rattle.keeping.proofs.keep_rows.Goals as goal
use Rattle.keeping.proofs.keep_rows.Goals.{then-event, else-event}

pub sift-count-requires : goal.sift-count-requires
sift-count-requires c = search (rules, keep_siftable)

pub grow-count-requires : goal.grow-count-requires
grow-count-requires c = search (rules, keep_growable)

pub returns : goal.returns
returns c = elim c.if-event.branch [
  | then-event w ↦ kept_written_new _ _ _ _ _ _ _ _ _ _ c.requires _ _ (search rules) c.sift-count.ensures _ _ _ (search rules) (search rules) w.grow-count.ensures (rw (w.kept-is, w.count-is) at c.clear.ensures)
  | else-event w ↦ kept_written_old _ _ _ _ _ _ _ _ _ _ c.requires _ _ (search rules) c.sift-count.ensures _ w.if-event.false (search rules) (rw (w.kept-is, w.count-is) at c.clear.ensures)
]
