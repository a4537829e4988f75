-- `bound::restricted` meets its contract: each number is the combination's where the set holds its parameter, else 0.
-- Assumes nothing.
use Rattle.std.proofs.Common.{rules}
use borrow.Author.Tests.{tests}
use Rattle.bound.specs.LibraryLaws.{made_restricted}
use Rattle.bound.proofs.restricted.Goals as goal

pub returns : goal.returns
returns c = made_restricted c.args.set c.args.c c.from_fn.result (search rules) c.from_fn.ensures.items (λ k r q l u. search (rules, tests))
