-- Document 01, "The table": the states as the code grows them, from the lists that a pattern's shape holds.
-- Assumes nothing.
use Rattle.std.specs.Prelude.{ℕ, zero, suc, ◌+◌, ◌*◌, ◌/◌, ◌%◌, ◌≤◌, ◌<◌, ◌≡◌, Bool, cond, List, [], length, get_or, take, Option, None, Some}
use Rattle.document.specs.Lists.{tabulate}
use Rattle.document.specs.Limits.{most_events, most_names, most_states}
use Rattle.document.specs.Patterns.{Pattern}
use Rattle.document.specs.Positions as positions
use Rattle.document.specs.States.{Found, state_of, find, states_of}
use Rattle.growing.specs.declared.Grown.{Grown}

-- the sets found after those of `to` from place e on, n of them, were met
unfoldable pub met_all : List ℕ → ℕ → ℕ → List ℕ → List ℕ
met_all to e zero found = found
met_all to e (suc n) found = met_all to (suc e) n (find (get_or to e 0) found)

-- the set s has the number k: it stands there among those found, which it has joined unless it was one of them
pub record Joins (s : ℕ) (g g' : Grown) (k : ℕ) : Type 0 where
  pub few : g'.count ≤ most_states
  pub long : length g'.sets ≡ most_states
  pub below : k < most_states
  pub number : k ≡ state_of s (take g.count g.sets)
  pub found : take g'.count g'.sets ≡ find s (take g.count g.sets)
  pub same : g'.next ≡ g.next

-- or it is none of the 64 that are found
abbrev pub Numbers : ℕ → Grown → Grown → Option ℕ → Type 0
Numbers s g g' None = (g.count ≡ most_states) × (most_states ≤ state_of s (take g.count g.sets))
Numbers s g g' (Some k) = Joins s g g' k

-- a row was gone through: the sets found are those that the first m of `to` add, and their numbers stand in the row of state i
pub record Row (to : List ℕ) (m i : ℕ) (g g' : Grown) : Type 0 where
  pub few : g'.count ≤ most_states
  pub long_sets : length g'.sets ≡ most_states
  pub long_next : length g'.next ≡ most_states * most_events
  pub found : take g'.count g'.sets ≡ met_all to 0 m (take g.count g.sets)
  pub entry : (e : ℕ) → e < m → get_or g'.next (i * most_events + e) 0 ≡ state_of (get_or to e 0) (met_all to 0 m (take g.count g.sets))
  pub other : (j : ℕ) → ((e : ℕ) → e < m → j ≡ i * most_events + e → ⊥) → get_or g'.next j 0 ≡ get_or g.next j 0

-- or they add so many that more than 64 are found
abbrev pub Rows : List ℕ → ℕ → ℕ → Grown → Grown → Option (Unit {0}) → Type 0
Rows to m i g g' None = most_states < length (met_all to 0 m (take g.count g.sets))
Rows to m i g g' (Some x) = Row to m i g g'

-- the lists are those of the pattern p: what can come next after each number, the numbers that name each event, and what each
-- set holds besides
pub record Reads (p : Pattern) (anew : Bool) (after named : List ℕ) (base : ℕ) : Type 0 where
  pub nexts : (k : ℕ) → k < suc most_names → get_or after k 0 ≡ positions.next p k
  pub names : (e : ℕ) → e < most_events → get_or named e 0 ≡ positions.named p e
  pub starts : base ≡ cond anew 1 0

-- the transitions of the states found, 16 places a state
abbrev pub transitions : Found → List ℕ
transitions g = tabulate (most_states * most_events) (λ k. get_or (get_or g.table (k / most_events) []) (k % most_events) 0)

-- all states of any pattern that has the lists were found, if there are at most 64
pub record AllStates (after named : List ℕ) (base m : ℕ) (r : Grown) : Type 0 where
  pub few : r.count ≤ most_states
  pub long : length r.sets ≡ most_states
  pub sets : (p : Pattern) (anew : Bool) → Reads p anew after named base → take r.count r.sets ≡ (states_of anew p m).sets
  pub next : (p : Pattern) (anew : Bool) → Reads p anew after named base → r.next ≡ transitions (states_of anew p m)

pub record TooMany (after named : List ℕ) (base m : ℕ) : Type 0 where
  pub over : (p : Pattern) (anew : Bool) → Reads p anew after named base → most_states < length (states_of anew p m).sets

abbrev pub Grows : List ℕ → List ℕ → ℕ → ℕ → Option Grown → Type 0
Grows after named base m None = TooMany after named base m
Grows after named base m (Some r) = AllStates after named base m r
