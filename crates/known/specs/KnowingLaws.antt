-- What follows from what is known of a property: the check over it is the document's.
-- Assumes nothing.
use Rattle.std.specs.Prelude.{◌≤◌, ◌≡◌, true}
use Rattle.document.specs.Limits.{most_states}
use Rattle.document.specs.Positions.{holds}
use Rattle.document.specs.Property.{Property, in_range, hopeful}
use Rattle.document.specs.Session.{Session, sound}
use Rattle.words.specs.Range.{in_range_range}
use Rattle.judge.specs.Sound.{sound_by, sound_by-sound}
use Rattle.moves.specs.declared.Known.{Known}
use Rattle.known.specs.Knowing.{KnownOf}

-- the check over what is known is the document's
pub known_sound : (p : Property) (k : Known) (s : Session) → KnownOf p k → sound_by k.parameters k.states (holds k.hopeful) s ≡ sound p s
known_sound p k s u =
    let h : holds k.hopeful ≡ hopeful p = λ i x. u.hopes.says x i in
    rw (u.parameters, u.states, h) (sound_by-sound p s)

-- what the calls beneath need
pub known_states : (p : Property) → in_range p ≡ true → (k : Known) → KnownOf p k → k.states ≤ most_states
known_states p taken k u = rw u.states (in_range_range p taken).few_states
