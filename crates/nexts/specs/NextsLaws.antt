-- Laws of the loop that leads from a set to what can come next.
-- Assumes nothing.
use Rattle.std.specs.Prelude.{ℕ, ◌+◌, ◌≡◌, refl, Bool, true, false, List, get_or}
use Rattle.std.proofs.Common.{add-one, ◌∙◌}
use Rattle.std.specs.Int.Bits.{bit_or, or_zero_r}
use Rattle.document.specs.Positions.{holds}
use Rattle.nexts.specs.Nexts.{nexts_of}

-- What can come next, one number more.
pub nexts_none : (after : List ℕ) (s : ℕ) → 0 ≡ nexts_of after s 0
unfolding nexts_of
nexts_none after s = refl

pub nexts_held : (after : List ℕ) (s k found : ℕ) (h : Bool) → found ≡ nexts_of after s k → h ≡ holds s k → h ≡ true
    → bit_or found (get_or after k 0) ≡ nexts_of after s (k + 1)
unfolding nexts_of
nexts_held after s k found h f q t = rw (add-one, nexts_of, ← f, ← q, t)

pub nexts_other : (after : List ℕ) (s k found : ℕ) (h : Bool) → found ≡ nexts_of after s k → h ≡ holds s k → h ≡ false
    → found ≡ nexts_of after s (k + 1)
unfolding nexts_of
nexts_other after s k found h f q t = rw (add-one, nexts_of, ← f, ← q, t, or_zero_r)

pub nexts_nothing : (after : List ℕ) (s k found : ℕ) (h : Bool) → found ≡ nexts_of after s k → h ≡ holds s k → h ≡ false
    → bit_or found 0 ≡ nexts_of after s (k + 1)
nexts_nothing after s k found h f q t = or_zero_r found ∙ nexts_other after s k found h f q t
