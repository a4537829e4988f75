-- `inplace::walk` meets its contract: the rows below the one that comes next are moved or stay.
-- Assumes nothing.
use Rattle.inplace.specs.WalkLaws.{going_begins, going_ends, going_state, going_onward, going_in, going_out, walks_none}
use borrow.Author.Rules.{rules}
use Rattle.inplace.proofs.walk.Goals.{then-agrees+else-not-is_hopeful+else-is_asked, else-agrees}
use Rattle.inplace.proofs.walk.Goals as goal

pub returns-then-number-eq0 : goal.returns-then-number-eq0
returns-then-number-eq0 c = search (rules, walks_none)

pub loop-i-init : goal.loop-i-init
loop-i-init c = (search rules, search rules, search rules, search rules, search (rules, going_begins))

pub next_state-to-requires : goal.next_state-to-requires
next_state-to-requires c = (search (rules, going_state), search rules)

pub is_hopeful-requires : goal.is_hopeful-requires
is_hopeful-requires c = search (rules, going_onward)

pub is_asked-requires : goal.is_asked-requires
is_asked-requires c = search (rules, going_onward)

pub loop-i-preserved : goal.loop-i-preserved
loop-i-preserved c = elim c.if-agrees.branch [
  | then-agrees+else-not-is_hopeful+else-is_asked w ↦ (search rules, search rules, search rules, search rules, search (rules, going_in))
  | else-agrees w ↦ (search rules, search rules, search rules, search rules, search (rules, going_out))
]

pub returns : goal.returns
returns c = search (rules, going_ends)
