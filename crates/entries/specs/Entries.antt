-- What the code answers for a row of a log. Document 01, "Log rows and the run".
-- Assumes nothing.
use Rattle.std.specs.Prelude.{ℕ, List, [], take, replicate, Result, Ok, Err}
use Rattle.document.specs.Refusals.{Answer, taken, refused}
use Rattle.document.specs.Declarations.{Declared}
use Rattle.document.specs.Log.{RowEvent}
use Rattle.refusals.specs.Named.{named}
use Rattle.refusals.specs.declared.Refusal.{Refusal}
use Rattle.fields.specs.declared.Part.{Part as Told}
use Rattle.places.specs.NamesAt.{names_at}
use Rattle.entries.specs.declared.Entry.{Entry}

-- what a row needs of the declarations: how many parameters there are, the event names, and the events' sets
unfoldable pub declared_at : List ℕ → List Told → List ℕ → ℕ → ℕ → Declared
declared_at text places sets events parameters = record {
  parameters = replicate parameters [];
  events = names_at text events places;
  sets = take events sets;
}

-- what is answered of a row, as the document says it
abbrev pub row_said : Result Entry Refusal → Answer RowEvent
row_said (Ok e) = taken (record { event = e.event; values = e.values })
row_said (Err r) = refused (named r) 0
