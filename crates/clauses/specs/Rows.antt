-- The first rows of a lent table, and their combinations.
-- Assumes nothing.
use Rattle.std.specs.Prelude.{ℕ, ◌*◌, ◌≤◌, List, length}
use Rattle.document.specs.Lists.{tabulate}
use Rattle.document.specs.Limits.{width}
use Rattle.document.specs.Tables.{numbers_at}

-- the combinations of the first n rows of some numbers each
unfoldable pub rows_of : ℕ → ℕ → List ℕ → List (List ℕ)
rows_of stride n t = tabulate n (λ i. numbers_at width t (i * stride))

-- the first n rows of some numbers each lie in the table
pub record Rows (stride n : ℕ) (t : List ℕ) : Type 0 where
  pub inside : n * stride ≤ length t
  pub wide : width ≤ stride
