-- The rows of a lent table from a place on, and what it is for a row to be put in among them in order.
-- Assumes nothing.
use Rattle.std.specs.Prelude.{ℕ, zero, suc, ◌+◌, ◌*◌, ◌<◌, ◌≤◌, ◌≡◌, List, [], ◌∷◌, length, get_or}
use Rattle.document.specs.Limits.{width, seen_stride, kept_stride}
use Rattle.document.specs.OneEvent.{Kept, insert_kept}
use Rattle.document.specs.Tables.{numbers_at}
use Rattle.slices.specs.OrderLaws.{Ascends, combinations}
use Rattle.slices.specs.TablesLaws.{kept_at}

-- the kept rows, the seen rows, from a place on
unfoldable pub kept_from : ℕ → List ℕ → ℕ → List Kept
kept_from zero t at = []
kept_from (suc n) t at = kept_at width t at ∷ kept_from n t (at + kept_stride)

unfoldable pub seen_from : ℕ → List ℕ → ℕ → List (List ℕ)
seen_from zero t at = []
seen_from (suc n) t at = numbers_at width t at ∷ seen_from n t (at + seen_stride)

-- n rows from a place on ascend, and there is room for one more
pub record Enterable (base n : ℕ) (t : List ℕ) : Type 0 where
  pub inside : base + (n + 1) * kept_stride ≤ length t
  pub order : Ascends (combinations (kept_from n t base))

-- the row is put in among them, and all else is as it was
pub record Entered (base n : ℕ) (c : List ℕ) (s : ℕ) (t t' : List ℕ) : Type 0 where
  pub rows : kept_from (n + 1) t' base ≡ insert_kept (record { combination = c; state = s }) (kept_from n t base)
  pub low : (k : ℕ) → k < base → get_or t' k 0 ≡ get_or t k 0
  pub high : (k : ℕ) → base + (n + 1) * kept_stride ≤ k → get_or t' k 0 ≡ get_or t k 0
