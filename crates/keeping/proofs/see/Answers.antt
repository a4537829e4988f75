-- `keeping::see` meets its contract: the binding is put in in order, if it is new.
-- Assumes nothing.
use native.Mathlib.Omega.{arith}
use Rattle.keeping.specs.KeepLaws.{seen_written_old, seen_insertable, seen_written_new}
use Rattle.ordered.specs.RowsLaws.{seen_searchable}
use borrow.Author.Rules.{rules}
use Rattle.keeping.proofs.see.Goals as goal

pub returns-else-event : goal.returns-else-event
returns-else-event c = search (rules, seen_written_old)

pub place-at-requires : goal.place-at-requires
place-at-requires c = search (rules, seen_searchable)

pub insert_seen-requires : goal.insert_seen-requires
insert_seen-requires c = (let w = c.place-at.ensures.within in omega arith, seen_insertable _ _ _ _ c.requires c.if-event.true)

pub returns-then-event : goal.returns-then-event
returns-then-event c = search (rules, seen_written_new)
