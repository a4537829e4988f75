-- What a call of the reader answers and where it leaves the reader, by document 01's `hands_out`.
-- Assumes nothing.
use Rattle.std.specs.Prelude.{ℕ, ◌+◌, ◌≡◌, Bool, true, false, Option, Some, None, List, [], length, drop}
use Rattle.std.specs.Borrow.{Bor}
use Rattle.document.specs.Rows.{rows}
use Rattle.document.specs.Log.{Handed, handed, no_row, hands_out}
use Rattle.fields.specs.Places.{Lies, place_from}
use Rattle.reader.specs.declared.Place.{Place}
use Rattle.reader.specs.declared.Reader.{Reader}

-- whether a row is handed out, its bytes (none where there is none), and the position afterwards (the same where there is none)
unfoldable pub is_there : Handed → Bool
is_there (handed row next) = true
is_there no_row = false

unfoldable pub bytes_of : Handed → List ℕ
bytes_of (handed row next) = row
bytes_of no_row = []

unfoldable pub position_after : ℕ → Handed → ℕ
position_after at (handed row next) = next
position_after at no_row = at

-- handing out from a position of a log: each part of the answer, and the position afterwards
pub record HandsOut (log : List ℕ) (at : ℕ) (there : Bool) (bytes : List ℕ) (after : ℕ) : Type 0 where
  pub there_is : there ≡ is_there (hands_out log at)
  pub bytes_are : bytes ≡ bytes_of (hands_out log at)
  pub after_is : after ≡ position_after at (hands_out log at)

-- the same as the reader says it: a row is that part of the log
abbrev pub Hands : Bor (List ℕ) → ℕ → Option (Bor (List ℕ)) → ℕ → Type 0
Hands log at (Some row) after = HandsOut log.now at true row.now after × Lies log (place_from at row.now) row
Hands log at None after = HandsOut log.now at false [] after

-- the same as places of the log
unfoldable pub place_at : List ℕ → ℕ → Place
place_at log at =
    record { there = is_there (hands_out log at); end = at + length (bytes_of (hands_out log at)); next = position_after at (hands_out log at) }

-- the rows that a reader still hands out
abbrev pub rows_left : Reader → List (List ℕ)
rows_left r = rows (drop r.at r.log.now)
