-- `bound::row_at` meets its contract: each number is the table's.
-- Assumes nothing.
use Rattle.std.proofs.Common.{rules}
use borrow.Author.Tests.{tests}
use Rattle.bound.specs.LibraryLaws.{made_row}
use Rattle.bound.proofs.row_at.Goals as goal

pub returns : goal.returns
returns c = made_row c.args.t.now c.args.at c.from_fn.result c.from_fn.ensures.items (λ k r q l u. search (rules, tests))
