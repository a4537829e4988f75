-- `property::Property::sets_fit` meets its contract: each set of the first events is tested.
-- Assumes nothing.
use Rattle.bits.specs.BitsLaws.{shifted_one}
use Rattle.property.specs.RangeLaws.{sets_all}
use borrow.Author.Rules.{rules}
use Rattle.property.proofs.Property.sets_fit.Goals as goal

pub returns : goal.returns
returns c = sets_all _ _ _ _ _ (search rules) (shifted_one 64 _ (search rules)) c.all_below.ensures
