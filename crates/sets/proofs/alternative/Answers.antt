-- `sets::alternative` meets its contract: each set is joined with the other's.
-- Assumes nothing.
use mathlib.Core.Path.{◌≡◌}
use mathlib.Core.Bool.{◌||◌}
use borrow.Author.Rules.{rules}
use Rattle.sets.specs.Shapes.{either_shape}
use Rattle.sets.proofs.alternative.Goals as goal

pub returns : goal.returns
unfolding either_shape
returns c =
    let null : c.if-a.result ≡ (c.args.a.null || c.args.b.null) = search rules in
    rw (null, c.merge.ensures, c.merge-2.ensures)
