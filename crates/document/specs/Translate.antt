-- Document 01, "The pattern text" and "The table": from the two texts to the property table, or the refusal, in the
-- document's order: the declarations' 1 to 5, the pattern's 1, then 6 to 9 by offset, then 10.
-- Assumes nothing.
use Rattle.std.specs.Prelude.{ℕ, ◌/◌, ◌%◌, ◌*◌, Bool, false, List, [], length, get_or, ltb}
use mathlib.Core.List as list
use Rattle.document.specs.Lists.{tabulate}
use Rattle.document.specs.Limits.{text_bytes, most_events, most_states}
use Rattle.document.specs.Refusals.{textTooLong, tooManyStates, Answer, taken, refuse_if, and_then}
use Rattle.document.specs.Declarations.{Declared, declarations}
use Rattle.document.specs.Positions.{verdict_of}
use Rattle.document.specs.States.{Found, states_of}
use Rattle.document.specs.Reading.{Parsed, parse}
use Rattle.document.specs.Property.{Property}

-- the table of the states found; entries past the counts are 0
unfoldable pub property_of : Declared → Parsed → Found → Property
property_of d t g = record {
  parameters = length d.parameters;
  events = length d.events;
  states = length g.sets;
  asked = t.asked;
  sets = tabulate most_events (λ e. get_or d.sets e 0);
  next = tabulate (most_states * most_events) (λ k. get_or (get_or g.table (k / most_events) []) (k % most_events) 0);
  verdicts = tabulate most_states (λ s. get_or (list.map (verdict_of t.pattern) g.sets) s 0);
}

-- total matching never starts anew
abbrev pub anew : Bool
anew = false

unfoldable pub translate : List ℕ → List ℕ → Answer Property
translate events text =
    and_then (declarations events) (λ d.
    refuse_if (ltb text_bytes (length text)) textTooLong
    (and_then (parse d.events text) (λ t.
    let g = states_of anew t.pattern (length d.events) in
    refuse_if (ltb most_states (length g.sets)) tooManyStates (taken (property_of d t g)))))
