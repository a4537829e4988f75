-- What the program knows of places in its texts, from what the library promises.
-- Assumes nothing.
use Rattle.std.specs.Prelude.{ℕ, ◌+◌, ◌≤◌, ◌<◌, ◌≡◌, List, length, drop}
use Rattle.document.specs.Rows.{first_row}
use Rattle.rows.specs.RowsLaws.{next_more}
use Rattle.rows.specs.TextLaws.{next_within}

-- a line end that is held has two bytes
pub row_passed : (s : List ℕ) (at end : ℕ) → end ≡ at + length (first_row (drop at s)) → end < length s → end + 2 ≤ length s
row_passed s at end e h = rw (next_more s at end e h) (next_within s at)
