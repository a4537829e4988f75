-- Document 01, "The table": sets as the bits of numbers (`holds`). When two sets have a number in common.
-- Assumes nothing.
use Rattle.std.specs.Prelude.{ℕ, Bool, not, eqb}
use Rattle.std.specs.Int.Bits.{bit_and}

-- two sets have a number in common
abbrev pub meets : ℕ → ℕ → Bool
meets a b = not (eqb (bit_and a b) 0)
