-- `keeping::sift` meets its contract: the rows read so far are written or dropped.
-- Assumes nothing.
use Rattle.keeping.specs.SiftLaws.{sifting_begins, sifting_ready, sifting_turn, sifting_ends}
use borrow.Author.Rules.{rules}
use Rattle.keeping.proofs.sift.Goals as goal

pub loop-i-init : goal.loop-i-init
loop-i-init c = search (rules, sifting_begins)

pub settle-o-requires : goal.settle-o-requires
settle-o-requires c = search (rules, sifting_ready)

pub loop-i-preserved : goal.loop-i-preserved
loop-i-preserved c = search (rules, sifting_turn)

pub returns : goal.returns
returns c = search (rules, sifting_ends)
