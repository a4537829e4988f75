-- `reader::hand_out` meets its contract: the part between the row's places is the row, and lies where it begins.
-- Assumes nothing.
use mathlib.Core.Path.{refl}
use Rattle.reader.specs.HandingLaws.{hands_out_lem, held_lies}
use Rattle.reader.proofs.hand_out.Goals as goal

pub returns : goal.returns
returns c = (
  refl,
  hands_out_lem _ _ _ _ c.place_at-place.ensures c.part-bytes.ensures.holds,
  held_lies _ _ _ _ c.part-bytes.ensures,
)
