-- What `translate` answers, by the definition's answer. Document 01, "The pattern text" and "The table".
-- Assumes nothing.
use Rattle.std.specs.Prelude.{ℕ, ◌*◌, ◌≡◌, List, length, replicate, ltb, Result}
use Rattle.document.specs.Limits.{most_events, most_states}
use Rattle.document.specs.Refusals.{tooManyStates, Answer, taken, refused, refuse_if, number}
use Rattle.document.specs.Declarations.{Declared, declarations}
use Rattle.document.specs.States.{states_of}
use Rattle.document.specs.Reading as reading
use Rattle.document.specs.Property as document
use Rattle.document.specs.Translate.{anew, property_of}
use Rattle.readings.specs.declared.Reading.{Reading}
use Rattle.readings.specs.Readings.{Stands}
use Rattle.parts.specs.declared.Stopped.{Stopped}
use Rattle.parts.specs.Parts.{AnsweredAs}
use Rattle.asking.specs.declared.Parsed.{Parsed}
use Rattle.asking.specs.Texts.{parsed_of}
use Rattle.property.specs.declared.Property.{Property}
use Rattle.translate.specs.declared.Translated.{Translated}

-- the table as the code holds it
abbrev pub held : document.Property → Property
held p = record {
  parameters = p.parameters;
  events = p.events;
  states = p.states;
  asked = p.asked;
  sets = p.sets;
  next = p.next;
  verdicts = p.verdicts;
}

-- a refusal's number and its offset, beside a table of zeros
unfoldable pub refused_table : ℕ → ℕ → Translated
refused_table q at = record {
  refusal = q;
  at = at;
  property = record {
    parameters = 0;
    events = 0;
    states = 0;
    asked = 0;
    sets = replicate most_events 0;
    next = replicate (most_states * most_events) 0;
    verdicts = replicate most_states 0;
  };
}

-- what each answer of the definition looks like
abbrev pub translated_of : Answer document.Property → Translated
translated_of (taken p) = record { refusal = 0; at = 0; property = held p }
translated_of (refused q at) = refused_table (number q) at

-- the definition's answer for declarations and a pattern that were read: its table, or 10
abbrev pub table_for : Declared → reading.Parsed → Answer document.Property
table_for x p =
    refuse_if (ltb most_states (length (states_of anew p.pattern (length x.events)).sets)) tooManyStates
    (taken (property_of x p (states_of anew p.pattern (length x.events))))

-- r is the answer for whatever declarations and pattern the two readings stand for
pub record Tables (d : Reading) (t : Parsed) (r : Result Property Stopped) : Type 0 where
  pub says : (text : List ℕ) (x : Declared) (p : reading.Parsed) → declarations text ≡ taken x → Stands text x d → t ≡ parsed_of p
      → AnsweredAs held (table_for x p) r
