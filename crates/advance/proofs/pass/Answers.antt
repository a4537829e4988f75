-- `advance::pass` meets its contract: the rows read so far are written or dropped, and their reports made.
-- Assumes nothing.
use Rattle.advance.specs.PassLaws.{underway_begins, underway_room, underway_state, underway_event, underway_onward, underway_stays, underway_moves, underway_ends, underway_stops}
use Rattle.settling.specs.SettlingLaws.{moved_before}
use borrow.Author.Rules.{rules}
use Rattle.advance.proofs.pass.Goals.{then-includes_at, else-includes_at}
use Rattle.advance.proofs.pass.Goals as goal

pub loop-row-init : goal.loop-row-init
loop-row-init c = (search rules, search rules, search rules, search (rules, underway_begins))

pub returns-then-lies_past : goal.returns-then-lies_past
returns-then-lies_past c = search (rules, underway_stops)

pub next_state-to-requires : goal.next_state-to-requires
next_state-to-requires c = (search (rules, underway_state), search (rules, underway_event))

pub tell-reported-requires : goal.tell-reported-requires
tell-reported-requires c = (search (rules, underway_onward), search rules, search (rules, underway_room))

pub settle-left-requires : goal.settle-left-requires
settle-left-requires c = (search (rules, underway_onward), search rules, search rules)

pub loop-row-preserved : goal.loop-row-preserved
loop-row-preserved c = elim c.if-includes_at.branch [
  | then-includes_at w ↦ rw (w.kept-is, w.left-is, w.reported-is, w.reports-is) (search rules, search rules, moved_before _ _ _ _ _ _ _ w.settle-left.ensures c.loop-row.invariant.2, search (rules, underway_moves))
  | else-includes_at w ↦ rw (w.kept-is, w.left-is, w.reported-is, w.reports-is) (search rules, search rules, search rules, search (rules, underway_stays))
]

pub returns : goal.returns
returns c = search (rules, underway_ends)
