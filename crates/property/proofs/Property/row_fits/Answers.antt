-- `property::Property::row_fits` meets its contract: each state of the row is tested.
-- Assumes nothing.
use Rattle.property.specs.RangeLaws.{row_all}
use Rattle.std.proofs.Common.{arith}
use borrow.Author.Rules.{rules}
use Rattle.property.proofs.Property.row_fits.Goals as goal

pub returns : goal.returns
returns c = row_all _ _ _ _ _ _ (search rules) (omega arith) c.all_below.ensures
