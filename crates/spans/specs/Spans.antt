-- Which rows of a kept table may include a binding, as the functions that look for them need and answer it.
-- Assumes nothing.
use Rattle.std.specs.Prelude.{ℕ, ◌+◌, ◌*◌, ◌<◌, ◌≤◌, ◌≡◌, ◌⊎◌, Bool, true, false, List, length, get_or}
use Rattle.document.specs.Lists.{In}
use Rattle.document.specs.Limits.{width, kept_stride}
use Rattle.document.specs.Combinations.{includes}
use Rattle.document.specs.OneEvent.{Kept}
use Rattle.document.specs.Tables.{numbers_at}
use Rattle.slices.specs.OrderLaws.{Ascends, combinations}
use Rattle.tables.specs.Tables.{kept_from}
use Rattle.moves.specs.Ready.{Onward}

-- Where the rows stand that may include the binding --------------------------------------------------------------------

-- the first numbers of the rows never fall
pub record Rising (m : ℕ) (t : List ℕ) : Type 0 where
  pub inside : m * kept_stride ≤ length t
  pub rise : (i j : ℕ) → i < j → j < m → get_or t (i * kept_stride) 0 ≤ get_or t (j * kept_stride) 0

-- the rows below r begin with a lesser number, the others do not
pub record Begins (m : ℕ) (t : List ℕ) (least r : ℕ) : Type 0 where
  pub within : r ≤ m
  pub low : (k : ℕ) → k < r → get_or t (k * kept_stride) 0 < least
  pub high : (k : ℕ) → r ≤ k → k < m → least ≤ get_or t (k * kept_stride) 0

-- where the first parameter is bound: the rows below r begin with no greater number, the others with a greater one
pub record Ends (m : ℕ) (t : List ℕ) (first r : ℕ) : Type 0 where
  pub within : r ≤ m
  pub low : (first ≡ 0 → ⊥) → (k : ℕ) → k < r → get_or t (k * kept_stride) 0 ≤ first
  pub high : (k : ℕ) → r ≤ k → k < m → (first ≡ 0 → ⊥) × (first < get_or t (k * kept_stride) 0)

-- the row at a place agrees with b at parameter j: it has b's number there, or b has none
abbrev pub Agree : List ℕ → ℕ → List ℕ → ℕ → Type 0
Agree t at b j = (get_or b j 0 ≡ 0) ⊎ (get_or t (at + j) 0 ≡ get_or b j 0)

-- the rows from `low` up to `end` agree with b at the first parameter, the others do not include b
pub record Spans (m : ℕ) (b t : List ℕ) (low end : ℕ) : Type 0 where
  pub up : low ≤ end
  pub within : end ≤ m
  pub below : (k : ℕ) → k < low → includes (numbers_at width t (k * kept_stride)) b ≡ false
  pub first : (k : ℕ) → low ≤ k → k < end → Agree t (k * kept_stride) b 0
  pub above : (k : ℕ) → low ≤ k → k < m → get_or b 0 0 ≤ get_or t (k * kept_stride) 0
  pub past : (k : ℕ) → end ≤ k → k < m → includes (numbers_at width t (k * kept_stride)) b ≡ false

-- Which of them include it ---------------------------------------------------------------------------------------------

pub record LastBound (b : List ℕ) (r : ℕ) : Type 0 where
  pub within : r < width
  pub past : (j : ℕ) → r < j → j < width → get_or b j 0 ≡ 0

pub record NextFound (t : List ℕ) (from end parameter number r : ℕ) : Type 0 where
  pub up : from ≤ r
  pub within : r ≤ end
  pub passed : (k : ℕ) → from ≤ k → k < r → get_or t (k * kept_stride + parameter) 0 ≡ number → ⊥
  pub found : r < end → get_or t (r * kept_stride + parameter) 0 ≡ number

pub record Agrees (t : List ℕ) (at : ℕ) (b : List ℕ) (from to : ℕ) (r : Bool) : Type 0 where
  pub yes : r ≡ true → (j : ℕ) → from ≤ j → j < to → Agree t at b j
  pub no : r ≡ false → includes (numbers_at width t at) b ≡ false

-- m kept rows in order, each in one of the states
pub record Movable (next : List ℕ) (states e m : ℕ) (b kept : List ℕ) : Type 0 where
  pub moves : Onward next states e
  pub wide : length b ≡ width
  pub inside : m * kept_stride ≤ length kept
  pub order : Ascends (combinations (kept_from m kept 0))
  pub within : (k : Kept) → In k (kept_from m kept 0) → k.state < states
