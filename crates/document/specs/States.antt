-- Document 01, "The table": the distinct sets over all sequences, numbered "as found, going through states in number
-- order and, within one, events in number order".
-- Assumes nothing.
use Rattle.std.specs.Prelude.{ℕ, zero, suc, ◌≡◌, Bool, true, false, List, [], ◌∷◌, ◌++◌, length, get_or, eqb, ltb}
use Rattle.document.specs.Lists.{In}
use Rattle.document.specs.Limits.{most_states}
use Rattle.document.specs.Patterns.{Pattern, Among}
use Rattle.document.specs.Positions.{move, start_set, set_after}

-- the number of a set among those found, or their count
unfoldable pub state_of : ℕ → List ℕ → ℕ
state_of s [] = 0
state_of s (x ∷ found) = elim (eqb s x) [ true ↦ 0 | false ↦ suc (state_of s found) ]

-- the sets found so far, and the rows of the table so far: for each state gone through, the states that the events lead to
pub record Found : Type 0 where
  pub sets : List ℕ
  pub table : List (List ℕ)

-- a set joins those found unless it is one of them
unfoldable pub find : ℕ → List ℕ → List ℕ
find s found = elim (ltb (state_of s found) (length found)) [ true ↦ found | false ↦ found ++ (s ∷ []) ]

-- the sets found after going through the events from e on, n of them, at the set s
unfoldable pub find_all : Bool → Pattern → ℕ → ℕ → ℕ → List ℕ → List ℕ
find_all anew r s e zero found = found
find_all anew r s e (suc n) found = find_all anew r s (suc e) n (find (move anew r s e) found)

-- the table's row of the set s
unfoldable pub row_of : Bool → Pattern → ℕ → ℕ → ℕ → List ℕ → List ℕ
row_of anew r s e zero found = []
row_of anew r s e (suc n) found = state_of (move anew r s e) found ∷ row_of anew r s (suc e) n found

-- going through the states from number i on, at most k of them; m is the number of events
unfoldable pub go_through : Bool → Pattern → ℕ → ℕ → ℕ → Found → Found
go_through anew r m i zero g = g
go_through anew r m i (suc k) g =
    elim (ltb i (length g.sets)) [
      | false ↦ g
      | true ↦
          let s = get_or g.sets i 0 in
          let found = find_all anew r s 0 m g.sets in
          go_through anew r m (suc i) k (record { sets = found; table = g.table ++ (row_of anew r s 0 m found ∷ []) })
    ]

-- all states, if they are at most 64; else more than 64 of them
unfoldable pub states_of : Bool → Pattern → ℕ → Found
states_of anew r m = go_through anew r m 0 (suc most_states) (record { sets = start_set ∷ []; table = [] })

-- "more than 64 states": so many sequences of declared events lead to different sets
abbrev pub Apart : Bool → Pattern → List (List ℕ) → Type 0
Apart anew r [] = Unit {0}
Apart anew r (w ∷ ws) = ((u : List ℕ) → In u ws → set_after anew r w ≡ set_after anew r u → ⊥) × Apart anew r ws

pub record MoreStates (anew : Bool) (r : Pattern) (m n : ℕ) : Type 0 where
  pub sequences : List (List ℕ)
  pub many : length sequences ≡ suc n
  pub declared : (w : List ℕ) → In w sequences → Among m w
  pub apart : Apart anew r sequences
