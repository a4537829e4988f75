-- `watch::main` lends a text that takes a refusal, and the heading.
-- Assumes nothing.
use Rattle.std.proofs.Common.{rules}
use Rattle.watch.proofs.main.Goals as goal

pub watch-requires : goal.watch-requires
watch-requires c = (search rules, search rules)
