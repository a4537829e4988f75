-- What the search for the next row that has a number finds.
-- Assumes nothing.
use Rattle.std.specs.Prelude.{ℕ, ◌+◌, ◌*◌, ◌<◌, ◌≤◌, ◌≡◌, List, Option, None, Some, get_or}
use Rattle.std.specs.Option.{MatchOption, unwrap_or}
use Rattle.std.proofs.Common.{arith}
use Rattle.document.specs.Limits.{kept_stride}
use Rattle.spans.specs.Spans.{NextFound}

module _ (t : List ℕ) (from end parameter number : ℕ) where
  -- row k has the number
  abbrev pub Has : ℕ → Type 0
  Has k = get_or t (k * kept_stride + parameter) 0 ≡ number

  pub found_of : (o : Option ℕ) (r : ℕ) → from ≤ end
      → MatchOption o ((k : ℕ) → from ≤ k → k < end → Has k → ⊥) (λ i. (from ≤ i) × (i < end) × Has i × ((k : ℕ) → from ≤ k → k < i → Has k → ⊥))
      → r ≡ unwrap_or o end → NextFound t from end parameter number r
  found_of None r h f q = rw q (record { up = h; within = omega arith; passed = f; found = λ g. absurd (omega arith) })
  found_of (Some i) r h f q = let a = f.0 in let b = f.1 in rw q (record { up = a; within = omega arith; passed = f.3; found = λ g. f.2 })
