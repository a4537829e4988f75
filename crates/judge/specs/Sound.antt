-- Document 01, "Numbers of refusal", 12, over what a run works out once: the counts of parameters and states, and the test of
-- the hopeful states. With those of a property it is the document's `sound`.
-- Assumes nothing.
use Rattle.std.specs.Prelude.{ℕ, ◌*◌, ◌≡◌, refl, Bool, not, ◌&&◌, List, leb, ltb}
use Rattle.document.specs.Lists.{every, equal}
use Rattle.document.specs.Limits.{width, seen_stride, kept_stride}
use Rattle.document.specs.Combinations.{empty_of, zero_past}
use Rattle.document.specs.OneEvent.{Kept, join_seen}
use Rattle.document.specs.Property.{Property, hopeful}
use Rattle.document.specs.Tables.{seen_room, kept_room}
use Rattle.document.specs.Session.{Session, seen_of, kept_of, ascending, zero_between, kept_combinations, rightly_kept, sound}

unfoldable pub rightly_kept_by : ℕ → (ℕ → Bool) → List (List ℕ) → Kept → Bool
rightly_kept_by states hope seen k =
    ltb k.state states && hope k.state && equal (join_seen width k.combination seen) k.combination

unfoldable pub sound_by : ℕ → ℕ → (ℕ → Bool) → Session → Bool
sound_by parameters states hope s =
    (leb s.seen_count (seen_room s.seen) && leb s.kept_count (kept_room s.kept))
    && (ascending (seen_of s) && ascending (kept_combinations s))
    && every (λ b. not (equal b (empty_of width))) (seen_of s)
    && (every (zero_past parameters) (seen_of s) && every (zero_past parameters) (kept_combinations s))
    && every (rightly_kept_by states hope (seen_of s)) (kept_of s)
    && (zero_between (s.seen_count * seen_stride) (seen_room s.seen * seen_stride) s.seen
    && zero_between (s.kept_count * kept_stride) (kept_room s.kept * kept_stride) s.kept)

pub sound_by-sound : (p : Property) (s : Session) → sound_by p.parameters p.states (hopeful p) s ≡ sound p s
unfolding sound_by sound rightly_kept_by rightly_kept
sound_by-sound p s = refl

-- the lent numbers and counts as a session
abbrev pub session_of : ℕ → ℕ → List ℕ → List ℕ → Session
session_of n m seen kept = record { seen_count = n; kept_count = m; seen = seen; kept = kept }
