-- What a count of bytes at the start of a slice says, as the kit's `io` words it: `&text[..count]` then needs no proof.
-- Assumes nothing.
use Rattle.std.specs.Prelude.{ℕ, ◌≤◌, List, length}
use Rattle.std.proofs.Common.{length-take, arith}
use Rattle.io.specs.Counts.{IsPrefixLen}

pub counts_held : (n : ℕ) (text : List ℕ) → n ≤ length text → IsPrefixLen n text
counts_held n text h = (h, rw length-take (omega arith))
