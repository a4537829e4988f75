-- `known::judged` meets its contract: the check over what is known is the document's.
-- Assumes nothing.
use Rattle.std.proofs.Common.{refl, sym, ◌∙◌}
use Rattle.known.specs.KnowingLaws.{known_sound}
use Rattle.known.proofs.judged.Goals as goal

pub returns-then-sound : goal.returns-then-sound
returns-then-sound c =
    let u = c.work_out-known.ensures in
    (u, sym (known_sound _ _ _ u) ∙ sym c.sound.ensures ∙ c.if-sound.true)

pub returns-else-sound : goal.returns-else-sound
returns-else-sound c = (refl, sym (known_sound _ _ _ c.work_out-known.ensures) ∙ sym c.sound.ensures ∙ c.if-sound.false)
