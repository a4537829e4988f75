-- `combos::join` meets its contract: each number is the first's where it is bound, else the second's.
-- Assumes nothing.
use Rattle.std.proofs.Common.{rules}
use borrow.Author.Tests.{tests}
use Rattle.combos.specs.LibraryLaws.{made_join}
use Rattle.combos.proofs.join.Goals as goal

pub returns : goal.returns
returns c = made_join c.args.c c.args.b c.from_fn.result (search rules) (search rules) c.from_fn.ensures.items (λ k r q l u. search (rules, tests))
