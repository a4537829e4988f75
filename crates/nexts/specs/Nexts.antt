-- Document 01, "The table": the sets that the events lead to from a set, from the lists that a pattern's shape holds.
-- Assumes nothing.
use Rattle.std.specs.Prelude.{ℕ, zero, suc, cond, List, get_or}
use Rattle.std.specs.Int.Bits.{bit_or, bit_and}
use Rattle.document.specs.Lists.{tabulate}
use Rattle.document.specs.Limits.{most_events, most_names}
use Rattle.document.specs.Positions.{holds}

-- the numbers that can come next after a number of the set s, the first n looked at
unfoldable pub nexts_of : List ℕ → ℕ → ℕ → ℕ
nexts_of after s zero = 0
nexts_of after s (suc n) = bit_or (nexts_of after s n) (cond (holds s n) (get_or after n 0) 0)

-- the sets that the events lead to from the set s
abbrev pub move_of : List ℕ → List ℕ → ℕ → ℕ → ℕ → ℕ
move_of after named base s e = bit_or (bit_and (nexts_of after s (suc most_names)) (get_or named e 0)) base

unfoldable pub moves_of : List ℕ → List ℕ → ℕ → ℕ → List ℕ
moves_of after named base s = tabulate most_events (move_of after named base s)
