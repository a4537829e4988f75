-- `keeping::grow_row` meets its contract: the combination that the row creates, if it is kept, is put in above it.
-- Assumes nothing.
use Rattle.keeping.specs.GrowRowLaws.{grow_joint, grow_onward, grow_in_place, grow_not, grow_hopeless, grow_enterable, grow_created}
use mathlib.Core.Path.{sym, ◌∙◌}
use borrow.Author.Rules.{rules}
use Rattle.keeping.proofs.grow_row.Goals as goal
use Rattle.keeping.proofs.grow_row.Goals.{then-includes-via-then-includes, then-includes-via-else-includes+then-not-creates}

pub returns-then-includes : goal.returns-then-includes
returns-then-includes c = elim c.then-includes.branch [
  | then-includes-via-then-includes w ↦ search (rules, grow_in_place)
  | then-includes-via-else-includes+then-not-creates w ↦ search (rules, grow_not)
]

pub creates-requires : goal.creates-requires
creates-requires c = (search rules, search (rules, grow_joint), sym c.includes.ensures ∙ c.if-includes.false)

pub is_hopeful-requires : goal.is_hopeful-requires
is_hopeful-requires c = search (rules, grow_onward)

pub returns-then-not-is_hopeful : goal.returns-then-not-is_hopeful
returns-then-not-is_hopeful c = search (rules, grow_hopeless)

pub enter-requires : goal.enter-requires
enter-requires c = search (rules, grow_enterable)

pub returns : goal.returns
returns c = search (rules, grow_created)
