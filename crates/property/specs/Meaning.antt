-- Document 01, "The table": what the code's property table means, field by field, and when it is in range.
-- Assumes nothing.
use Rattle.std.specs.Prelude.{ℕ, ◌+◌, ◌*◌, ◌^◌, ◌≤◌, ◌<◌, Bool, ◌&&◌, List, get_or, leb, ltb}
use Rattle.document.specs.Lists.{every_below}
use Rattle.document.specs.Limits.{width, most_events, most_states}
use Rattle.document.specs.Property as document
use Rattle.property.specs.declared.Property.{Property}

abbrev pub meaning : Property → document.Property
meaning p = record {
  parameters = p.parameters;
  events = p.events;
  states = p.states;
  asked = p.asked;
  sets = p.sets;
  next = p.next;
  verdicts = p.verdicts;
}

-- The parts of `in_range`, in its order: the counts and the set asked for; the sets of the events; the verdicts and the
-- states that the events lead to, in the first n states.
unfoldable pub counts_fit : ℕ → ℕ → ℕ → ℕ → Bool
counts_fit parameters events states asked =
    leb parameters width
    && (leb 1 events && leb events most_events)
    && (leb 1 states && leb states most_states)
    && (leb 1 asked && leb asked 3)

unfoldable pub sets_fit : List ℕ → ℕ → ℕ → Bool
sets_fit sets events parameters = every_below events (λ e. ltb (get_or sets e 0) (2 ^ parameters))

unfoldable pub row_fits : List ℕ → ℕ → ℕ → ℕ → Bool
row_fits next events states s = every_below events (λ e. ltb (get_or next (s * most_events + e) 0) states)

abbrev pub row_passes : document.Property → ℕ → Bool
row_passes p s = leb (get_or p.verdicts s 0) 2 && row_fits p.next p.events p.states s

unfoldable pub rows_fit : List ℕ → List ℕ → ℕ → ℕ → ℕ → Bool
rows_fit next verdicts events states n = every_below n (λ s. leb (get_or verdicts s 0) 2 && row_fits next events states s)

-- the table leads nowhere but to its states, and its counts are within the limits
pub record Within (next : List ℕ) (events states : ℕ) : Type 0 where
  pub few_events_lem : events ≤ most_events
  pub few_states_lem : states ≤ most_states
  pub entry : (s e : ℕ) → s < states → e < events → get_or next (s * most_events + e) 0 < states
