-- What a test of bytes that a function is given says.
-- Assumes nothing.
use Rattle.std.specs.Prelude.{ℕ, ◌<◌, ◌≡◌, Bool}

-- of each byte a test answers what p says, and nothing else
pub record Tests (says : ℕ → Bool → Type 0) (p : ℕ → Bool) : Type 0 where
  pub each : (b : ℕ) (r : Bool) → b < 256 → says b r → r ≡ p b
