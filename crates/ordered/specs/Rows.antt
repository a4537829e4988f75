-- Rows in order: what a search of a table needs, and what it finds.
-- Assumes nothing.
use Rattle.std.specs.Prelude.{ℕ, ◌+◌, ◌*◌, ◌<◌, ◌≤◌, ◌≡◌, true, false, List, length}
use Rattle.document.specs.Limits.{width, seen_stride}
use Rattle.document.specs.Combinations.{precedes}
use Rattle.document.specs.Tables.{numbers_at, seen_rows}
use Rattle.document.specs.Session.{ascending}

-- n rows of some numbers each, from the place `base` on, lie in the table, and each row's combination precedes those after it
pub record Searchable (base stride n : ℕ) (t : List ℕ) : Type 0 where
  pub inside : base + n * stride ≤ length t
  pub wide : width ≤ stride
  pub order : (i j : ℕ) → i < j → j < n
      → precedes (numbers_at width t (base + i * stride)) (numbers_at width t (base + j * stride)) ≡ true

-- the rows below r precede c, the others do not
pub record Parted (base stride n : ℕ) (t c : List ℕ) (r : ℕ) : Type 0 where
  pub within : r ≤ n
  pub low : (k : ℕ) → k < r → precedes (numbers_at width t (base + k * stride)) c ≡ true
  pub high : (k : ℕ) → r ≤ k → k < n → precedes (numbers_at width t (base + k * stride)) c ≡ false

-- the first n seen rows lie in the table in order
pub record SeenInOrder (n : ℕ) (seen : List ℕ) : Type 0 where
  pub inside : n * seen_stride ≤ length seen
  pub order : ascending (seen_rows n seen) ≡ true
