-- `settling::stay` meets its contract: the row stands there already, or it is written there.
-- Assumes nothing.
use Rattle.std.proofs.Common.{arith, ◌+◌, ◌-◌, ◌*◌}
use Rattle.document.specs.Limits.{kept_stride}
use Rattle.ordered.specs.WritesLaws.{stays_put}
use Rattle.settling.specs.SettlingLaws.{row_stays}
use borrow.Author.Rules.{rules}
use Rattle.settling.proofs.stay.Goals as goal

pub returns-then-o-i : goal.returns-then-o-i
returns-then-o-i c = row_stays c.args.i c.args.o (c.args.i * kept_stride + kept_stride - c.args.i * kept_stride) _ _ (omega arith) c.copy_within.ensures.by_index

pub returns-else-o-i : goal.returns-else-o-i
returns-else-o-i c = search (rules, stays_put)
