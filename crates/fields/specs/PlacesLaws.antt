-- Laws of parts: a part that is told by numbers, and the same part given back.
-- Assumes nothing.
use Rattle.std.specs.Prelude.{ℕ, zero, suc, ◌+◌, ◌≤◌, ◌≡◌, refl, List, length, take, drop, replicate}
use Rattle.std.proofs.Common.{sym, ap, ◌∙◌, length-drop, length-take-le, arith}
use Rattle.std.specs.Borrow.{Bor}
use Rattle.fields.specs.declared.Part.{Part as Told}
use Rattle.fields.specs.Places.{PartAt, ToldAt, place_at}

-- the bytes from a place on, inside the text, are told by that place and their number
pub told_at : (text bytes : List ℕ) (start size : ℕ) → start + size ≤ length text → take size (drop start text) ≡ bytes
    → ToldAt text start bytes (record { start = start; size = size })
told_at text bytes start size i h = record {
  starts = refl;
  sizes = sym (length-take-le size (drop start text) (rw length-drop (omega arith))) ∙ ap length h;
  holds = h;
  inside = i;
}

-- where there is no place yet, each is the empty one at the start
pub empty_at : (n k : ℕ) → place_at (replicate n (record { start = 0; size = 0 })) k ≡ record { start = 0; size = 0 }
empty_at zero k = refl
empty_at (suc n) zero = refl
empty_at (suc n) (suc k) = empty_at n k

-- the part of the text that was told
pub told_part : (lent x : Bor (List ℕ)) (start : ℕ) (bytes : List ℕ) (p : Told) → ToldAt lent.now start bytes p
    → PartAt lent p.start (take p.size (drop p.start lent.now)) x → PartAt lent start bytes x
told_part lent x start bytes p t b = record { holds = b.holds ∙ t.holds; lies = rw t.starts at b.lies }
