-- Document 01, "The table" (hopeful): what is promised of words of bits for states.
-- Assumes nothing.
use Rattle.std.specs.Prelude.{ℕ, ◌≡◌, cond, ◌&&◌, ltb}
use Rattle.document.specs.Refusals.{badProperty, number}
use Rattle.document.specs.Positions.{holds}
use Rattle.document.specs.Property as document
use Rattle.hopes.specs.declared.Checked.{Checked}

-- the bits of r are the states whose verdict is asked for
pub record Asks (p : document.Property) (r : ℕ) : Type 0 where
  pub says : (s : ℕ) → holds r s ≡ (ltb s p.states && document.is_asked p s)

-- the bits of r are the states from which one or more of the allowed events lead to a marked state
pub record Leading (p : document.Property) (marked allowed r : ℕ) : Type 0 where
  pub says : (s : ℕ) → holds r s ≡ document.leads p (holds marked) (holds allowed) s

-- the bits of r are the hopeful states
pub record Hopes (p : document.Property) (r : ℕ) : Type 0 where
  pub says : (s : ℕ) → holds r s ≡ document.hopeful p s

-- what the check of a table says: refused 11 if it is not within its ranges; else the bits are its hopeful states
pub record Checks (p : document.Property) (r : Checked) : Type 0 where
  pub says : r.refusal ≡ cond (document.in_range p) 0 (number badProperty)
  pub hopes : (s : ℕ) → holds r.hopeful s ≡ (document.in_range p && document.hopeful p s)
