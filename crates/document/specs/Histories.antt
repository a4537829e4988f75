-- Document 01, "Words", and source document 003, chapters 3 and 4: the history of accepted events, slices, and the
-- combinations that it has made. Nothing here speaks of tables.
-- Assumes nothing.
use Rattle.std.specs.Prelude.{ℕ, ◌≡◌, List, [], ◌∷◌, T}
use Rattle.document.specs.Lists.{In, cons_if}
use Rattle.document.specs.Combinations.{empty_of, includes, compatible, join}

-- an accepted event: its number, its binding, and the number of the row that brought it (no definition here depends on the
-- row; it is there so that a report can be explained by rows)
pub record Event : Type 0 where
  pub row : ℕ
  pub event : ℕ
  pub binding : List ℕ

-- "the accepted events whose binding it includes, in order, values removed"
unfoldable pub slice : List ℕ → List Event → List ℕ
slice c [] = []
slice c (h ∷ H) = cons_if (includes c h.binding) h.event (slice c H)

-- each two of the list are compatible
abbrev pub AllCompatible : List ℕ → List (List ℕ) → Type 0
AllCompatible a [] = Unit {0}
AllCompatible a (b ∷ l) = T (compatible a b) × AllCompatible a l

abbrev pub PairwiseCompatible : List (List ℕ) → Type 0
PairwiseCompatible [] = Unit {0}
PairwiseCompatible (b ∷ l) = AllCompatible b l × PairwiseCompatible l

-- the join of a list of combinations of width w; of none, the empty combination
abbrev pub join_all : ℕ → List (List ℕ) → List ℕ
join_all w [] = empty_of w
join_all w (b ∷ l) = join b (join_all w l)

-- b is the binding of an accepted event
pub record IsBinding (H : List Event) (b : List ℕ) : Type 0 where
  pub event : Event
  pub accepted : In event H
  pub is : event.binding ≡ b

-- "a combination is made if it is the join of some pairwise compatible bindings of accepted events, or empty"
pub record Made (w : ℕ) (H : List Event) (c : List ℕ) : Type 0 where
  pub bindings : List (List ℕ)
  pub from : (b : List ℕ) → In b bindings → IsBinding H b
  pub compatible : PairwiseCompatible bindings
  pub is : c ≡ join_all w bindings
