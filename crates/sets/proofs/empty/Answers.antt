-- `sets::empty` meets its contract: its sets are empty.
-- Assumes nothing.
use Rattle.document.specs.Lists.{tabulate}
use Rattle.document.specs.Positions.{nullable, firsts, lasts, follows, named}
use Rattle.sets.specs.Shapes.{shape_of}
use mathlib.Core.Path.{refl}
use Rattle.sets.proofs.empty.Goals as goal

pub returns : goal.returns
unfolding shape_of nullable firsts lasts follows named tabulate
returns c = refl
