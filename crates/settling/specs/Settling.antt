-- One kept row of a pass over them (document 01, "One event"): its report, and where it is written; and the numbers after the last
-- row of the pass, moved down.
-- Assumes nothing.
use Rattle.std.specs.Prelude.{ℕ, ◌+◌, ◌*◌, ◌-◌, ◌<◌, ◌≤◌, ◌≡◌, true, false, List, [], ◌++◌, get_or}
use Rattle.document.specs.Lists.{cons_if}
use Rattle.document.specs.Limits.{width, kept_stride}
use Rattle.document.specs.Positions.{holds}
use Rattle.document.specs.Tables.{numbers_at}
use Rattle.ordered.specs.Writes.{Put}
use Rattle.tables.specs.Tables.{kept_from}

-- a row that moves to a state is reported after `count` reports, if the verdict is asked for; there are r reports then
pub record ToldRow (verdicts : List ℕ) (asks to from count : ℕ) (c t t' : List ℕ) (r : ℕ) : Type 0 where
  pub rows : kept_from r t' from ≡ kept_from count t from ++ cons_if (holds asks to) (record { combination = c; state = get_or verdicts to 0 }) []
  pub low : (k : ℕ) → k < from → get_or t' k 0 ≡ get_or t k 0
  pub high : (k : ℕ) → from + r * kept_stride ≤ k → get_or t' k 0 ≡ get_or t k 0
  pub more : count ≤ r
  pub few : r ≤ count + 1

-- row i, which moves to a state, is written after o rows, or it is dropped; there are r rows then
pub record MovedRow (hopes to i o : ℕ) (t t' : List ℕ) (r : ℕ) : Type 0 where
  pub goes : holds hopes to ≡ true → (r ≡ o + 1) × Put (o * kept_stride) (numbers_at width t (i * kept_stride)) to t t'
  pub drops : holds hopes to ≡ false → (r ≡ o) × (t' ≡ t)

-- the numbers from a place up to the end, moved down to another place
pub record Lowered (from to end : ℕ) (t t' : List ℕ) (r : ℕ) : Type 0 where
  pub stops : r ≡ to + (end - from)
  pub low : (k : ℕ) → k < to → get_or t' k 0 ≡ get_or t k 0
  pub mid : (k : ℕ) → to ≤ k → k < to + (end - from) → get_or t' k 0 ≡ get_or t (k + (from - to)) 0
  pub high : (k : ℕ) → to + (end - from) ≤ k → get_or t' k 0 ≡ get_or t k 0
