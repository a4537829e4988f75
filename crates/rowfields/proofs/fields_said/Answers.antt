-- `rowfields::fields_said` meets its contract: the fields counted so far and the commas that are left make the row's fields.
-- Assumes nothing.
use Rattle.rowfields.specs.ValuesLaws.{counting_begin, counting_barred, counting_comma, counting_other, counting_end}
use borrow.Author.Rules.{rules}
use Rattle.rowfields.proofs.fields_said.Goals as goal
use Rattle.rowfields.proofs.fields_said.Goals.{then-b-eq-COMMA, else-b-eq-COMMA+else-is_barred}

pub loop-b-init : goal.loop-b-init
loop-b-init c = search (rules, counting_begin)

pub returns-then-is_barred : goal.returns-then-is_barred
returns-then-is_barred c = search (rules, counting_barred)

pub loop-b-preserved : goal.loop-b-preserved
loop-b-preserved c = elim c.if-b-eq-COMMA.branch [
  | then-b-eq-COMMA w ↦ rw w.count-is (search (rules, counting_comma))
  | else-b-eq-COMMA+else-is_barred w ↦ rw w.count-is (search (rules, counting_other))
]

pub returns : goal.returns
returns c = search (rules, counting_end)
