-- What a reading of declarations says, tied to the definitions of document 01, "The declarations".
-- A reading holds no name: it holds where each event's name stands in the text.
-- Assumes nothing.
use Rattle.std.specs.Prelude.{ℕ, zero, suc, ◌+◌, ◌-◌, ◌<◌, ◌≤◌, ◌≡◌, List, ◌++◌, length, take, drop, set, replicate, Result, Ok, Err}
use Rattle.document.specs.Limits.{width, most_events}
use Rattle.document.specs.Refusals.{Answer, taken, refused, number}
use Rattle.refusals.specs.declared.Refusal.{Refusal}
use Rattle.refusals.specs.Named.{named}
use Rattle.document.specs.Rows.{first_row, fields}
use Rattle.document.specs.Declarations.{Declared, declarations, event_row}
use Rattle.document.specs.Log.{next_at}
use Rattle.readings.specs.declared.Reading.{Reading}
use Rattle.fields.specs.declared.Part.{Part as Told}
use Rattle.fields.specs.Places.{place_at}
use Rattle.places.specs.NamesAt.{names_at, Inside}

-- numbers, padded with 0 to one for each event that there can be
unfoldable pub padded : List ℕ → List ℕ
padded l = l ++ replicate (most_events - length l) 0

-- a reading stands for accepted declarations of the text
pub record Stands (text : List ℕ) (d : Declared) (r : Reading) : Type 0 where
  pub parameters : r.parameters ≡ length d.parameters
  pub events : r.events ≡ length d.events
  pub names : names_at text r.events r.places ≡ d.events
  pub sets : r.sets ≡ padded d.sets
  pub inside : Inside text r.places
  pub few_parameters : r.parameters ≤ width
  pub few_events : r.events ≤ most_events
  pub some_events : 1 ≤ r.events

-- where the row of an event begins: after the header and the rows of the events before it
unfoldable pub row_start : List ℕ → ℕ → ℕ
row_start text zero = next_at text 0
row_start text (suc e) = next_at text (row_start text e)

-- each name that was read stands where its row begins
pub record AtRows (text : List ℕ) (r : Reading) : Type 0 where
  pub begin : (k : ℕ) → k < r.events → (place_at r.places k).start ≡ row_start text k

-- what `read` answers, by what the text's declarations are: a reading of them, or the number of their refusal
abbrev pub ReadAs : List ℕ → Result Reading Refusal → Answer Declared → Type 0
ReadAs text (Ok r) (taken d) = Stands text d r
ReadAs text (Ok r) (refused q at) = ⊥
ReadAs text (Err e) (taken d) = ⊥
ReadAs text (Err e) (refused q at) = number (named e) ≡ number q

-- what holds of a reading, if one was answered
abbrev pub OfReading : (Reading → Type 0) → Result Reading Refusal → Type 0
OfReading p (Ok r) = p r
OfReading p (Err e) = Unit {0}

pub record Reads (text : List ℕ) (r : Result Reading Refusal) : Type 0 where
  pub says : ReadAs text r (declarations text)
  pub places : OfReading (AtRows text) r

-- A reading on the way, after some of the events: its places are sound, and what it says so far is declarations.
pub record Placed (text : List ℕ) (r : Reading) : Type 0 where
  pub parameters : r.parameters ≡ length (drop 1 (fields (first_row text)))
  pub few_parameters : r.parameters ≤ width
  pub few_events : r.events ≤ most_events
  pub inside : Inside text r.places
  pub places : length r.places ≡ most_events
  pub sets : length r.sets ≡ most_events
  pub rest : drop r.events r.sets ≡ replicate (most_events - r.events) 0

unfoldable pub said : List ℕ → Reading → Declared
said text r = record {
  parameters = drop 1 (fields (first_row text));
  events = names_at text r.events r.places;
  sets = take r.events r.sets;
}

-- a reading of no event, and one with an event more
abbrev pub none_read : ℕ → Reading
none_read n = record {
  parameters = n;
  events = 0;
  sets = replicate most_events 0;
  places = replicate most_events (record { start = 0; size = 0 });
}

unfoldable pub one_more : Reading → Told → ℕ → Reading
one_more r place marks = record {
  parameters = r.parameters;
  events = r.events + 1;
  sets = set r.sets r.events marks;
  places = set r.places r.events place;
}

-- what the row of an event at a place makes of a reading
abbrev pub RowAs : List ℕ → Result Reading Refusal → Answer Declared → Type 0
RowAs text (Ok r) (taken d) = Placed text r × (said text r ≡ d)
RowAs text (Ok r) (refused q at) = ⊥
RowAs text (Err e) (taken d) = ⊥
RowAs text (Err e) (refused q at) = number (named e) ≡ number q

-- an event more, whose name stands at the row's place
pub record Follows (at : ℕ) (t r : Reading) : Type 0 where
  pub events : r.events ≡ t.events + 1
  pub place : Told
  pub begins : place.start ≡ at
  pub places : r.places ≡ set t.places t.events place

pub record RowReads (text : List ℕ) (at : ℕ) (t : Reading) (r : Result Reading Refusal) : Type 0 where
  pub says : RowAs text r (event_row (said text t) (first_row (drop at text)))
  pub follows : OfReading (Follows at t) r
