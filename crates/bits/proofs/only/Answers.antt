-- `bits::only` meets its contract: a shifted 1 is a set of one number.
-- Assumes nothing.
use Rattle.bits.specs.BitsLaws.{shifted_one}
use Rattle.bits.proofs.only.Goals as goal

pub returns : goal.returns
returns c = shifted_one 64 _ c.requires
