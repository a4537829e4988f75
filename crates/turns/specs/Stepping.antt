-- One row into a session that was judged before, over what the call goes by; with a property that it was judged with, it is the
-- document's `step_row`.
-- Assumes nothing.
use Rattle.std.specs.Prelude.{ℕ, ◌<◌, ◌≤◌, List, ◌≡◌, true}
use Rattle.document.specs.Limits.{width, most_events}
use Rattle.document.specs.Refusals.{Answer, and_then}
use Rattle.document.specs.Declarations.{Declared}
use Rattle.document.specs.Session.{Session, Happened}
use Rattle.document.specs.Log.{row_event, agrees}
use Rattle.document.specs.Property.{Property, in_range}
use Rattle.places.specs.NamesAt.{Inside}
use Rattle.entries.specs.Entries.{declared_at}
use Rattle.moves.specs.Ready.{Steady}
use Rattle.known.specs.Knowing.{KnownOf}
use Rattle.judging.specs.declared.Judged.{Judged}
use Rattle.steps.specs.Steps.{step_by}

-- declarations as they were read from their text: where the event names stand in it, and the sets
abbrev pub read_as : Judged → Declared
read_as c = declared_at c.declarations.now c.reading.places c.reading.sets c.reading.events c.reading.parameters

unfoldable pub row_step_by : Judged → ℕ → Session → List ℕ → List ℕ → Answer Happened
row_step_by c from s reports row =
    and_then (row_event (read_as c) row) (λ v. step_by c.known.next c.known.verdicts c.known.hopeful c.known.asked from s reports v.event v.values)

-- what a row needs: the event names lie in the text, and the session is steady for each event
pub record RowGoes (c : Judged) (n m : ℕ) (seen kept : List ℕ) : Type 0 where
  pub inside : Inside c.declarations.now c.reading.places
  pub few_events : c.reading.events ≤ most_events
  pub few_parameters : c.reading.parameters ≤ width
  pub steady : (e : ℕ) → e < c.reading.events → Steady c.known.next c.known.states e n m seen kept

-- what was judged once, and holds for each row
pub record Sure (p : Property) (c : Judged) : Type 0 where
  pub inside : Inside c.declarations.now c.reading.places
  pub few_events : c.reading.events ≤ most_events
  pub few_parameters : c.reading.parameters ≤ width
  pub range : in_range p ≡ true
  pub parameters : c.reading.parameters ≡ p.parameters
  pub events : c.reading.events ≡ p.events
  pub agree : agrees (read_as c) p ≡ true
  pub known : KnownOf p c.known
