-- Names that stand at places of a text.
-- Assumes nothing.
use Rattle.std.specs.Prelude.{ℕ, ◌+◌, ◌≡◌, ◌≤◌, ◌<◌, List, length, Option, Some, None}
use Rattle.document.specs.Lists.{tabulate, place_of}
use Rattle.fields.specs.declared.Part.{Part as Told}
use Rattle.fields.specs.Places.{place_at, told}

-- the names at the first n places, each a part of the text
unfoldable pub names_at : List ℕ → ℕ → List Told → List (List ℕ)
names_at text n places = tabulate n (λ k. told text (place_at places k))

-- every place lies inside the text
pub record Inside (text : List ℕ) (places : List Told) : Type 0 where
  pub within : (k : ℕ) → (place_at places k).start + (place_at places k).size ≤ length text

-- what is answered of a name among so many: the place where it stands first, or that it is none of them
abbrev pub FoundAs : List ℕ → List (List ℕ) → ℕ → Option ℕ → Type 0
FoundAs x l n (Some k) = (k ≡ place_of x l) × (k < n)
FoundAs x l n None = place_of x l ≡ n
