-- Document 01, "One event", over the transitions and sets of states as the code is lent them: whether a binding is new,
-- whether a row moves, and what an event comes to.
-- Assumes nothing.
use Rattle.std.specs.Prelude.{ℕ, ◌+◌, ◌*◌, Bool, true, false, not, ◌&&◌, ◌||◌, List, get_or}
use Rattle.document.specs.Lists.{equal, among}
use Rattle.document.specs.Limits.{width, most_events}
use Rattle.document.specs.Positions.{holds}
use Rattle.document.specs.Combinations.{empty_of, includes, compatible, join}
use Rattle.document.specs.OneEvent.{Kept, join_seen, see, kept_after, reports_after}
use Rattle.document.specs.Session.{Outcome}

-- how often: once, or not
abbrev pub one : Bool → ℕ
one true = 1
one false = 0

-- b is neither empty nor seen yet
unfoldable pub is_new : List ℕ → List (List ℕ) → Bool
is_new b seen = not (equal b (empty_of width) || among b seen)

-- the row of a combination that includes b moves in place
module _ (step : ℕ → ℕ → ℕ) (e : ℕ) (b : List ℕ) (seen : List (List ℕ)) where
  abbrev pub in_place : Kept → Bool
  in_place k = includes k.combination b

-- The tables of a property as the code is lent them --------------------------------------------------------------------

unfoldable pub step_of : List ℕ → ℕ → ℕ → ℕ
step_of next s e = get_or next (s * most_events + e) 0

-- a moved row's state is one of a set
unfoldable pub state_in : ℕ → Kept → Bool
state_in set k = holds set k.state

-- what an event comes to, over the transitions and the sets of the hopeful states and of those asked for
unfoldable pub outcome_by : List ℕ → ℕ → ℕ → List (List ℕ) → List Kept → ℕ → List ℕ → Outcome
outcome_by next hopes asks seen kept e b = record {
  seen = see width b seen;
  kept = kept_after width (step_of next) e b seen (state_in hopes) kept;
  rows = reports_after width (step_of next) e b seen (state_in asks) kept;
}

-- "c moves", by the combination of its row alone
unfoldable pub moves_at : List ℕ → List (List ℕ) → List ℕ → Bool
moves_at b seen k = compatible b k && equal (join_seen width (join b k) seen) k
